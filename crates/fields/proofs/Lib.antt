-- The root of the laws that the functions' proofs cite.
pub mod Judged
pub mod Steps
pub mod Point
pub mod Lines
pub mod Threes
