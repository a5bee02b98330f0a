pub mod FilledLaws
pub mod Vectors
