-- Why this number: the question explained.
pub mod Explain
pub mod Parts
pub mod Shown
