-- The lent areas of a map set.
pub mod Lists
-- what comes back
pub mod Flat
pub mod Exact
pub mod Value
pub mod Formed
pub mod Places
pub mod Fronts
-- the second scan
pub mod Events
pub mod Stores
pub mod Scan
-- what may be written
pub mod Nest
pub mod Valid
pub mod ValidDecided
pub mod Nesting
