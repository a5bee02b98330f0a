pub mod ShortLaws
pub mod Vectors
