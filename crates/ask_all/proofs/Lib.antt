pub mod EachLaws
pub mod Once
pub mod Vectors
pub mod Theorems
