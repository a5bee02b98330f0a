-- One block without the whole grid: the index beside a text.
-- where a block stands in a text
pub mod Stands
-- where one opens
pub mod OpensAt
-- the index, and what is answered by it
pub mod Index
-- a block found in a text, as a function: what code computes
pub mod Found
-- the index that is made of a text
pub mod Made
-- answered as read
pub mod AsRead

-- a small text and its index
