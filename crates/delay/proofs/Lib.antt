pub mod DelayLaws
pub mod Finite
pub mod Literals
pub mod Vectors
pub mod Theorems
