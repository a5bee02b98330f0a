pub mod ListLaws
pub mod KindLaws
pub mod Needs
-- what a text has is formed
pub mod MadeValues
pub mod MadeHeader
pub mod MadeMaps
pub mod Made
-- the second scan leaves the areas
pub mod KeptLaws
pub mod Sorted
pub mod Seams
pub mod InAreas
pub mod Thirds
pub mod Marked
pub mod Stored
pub mod ScanRows
pub mod Scanned
-- valid lists are those of a formed map set
pub mod CutLaws
pub mod Unnested
pub mod Absent
pub mod Nested
pub mod ValidFormed
pub mod Theorems
