pub mod CrossLaws
pub mod ExplainOnce
pub mod SmallLaws
pub mod Vectors
pub mod Theorems
