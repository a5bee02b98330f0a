-- The root of the definitions and the laws.
pub mod Sums
pub mod Years
pub mod Formula
