-- The root of the laws that the functions' proofs cite.
pub mod RowLaws
mod NumberLaws
mod OpeningLaws
pub mod PlacedLaws
