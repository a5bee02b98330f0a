-- The figures of a map set.
pub mod SetFigures
pub mod Parts
