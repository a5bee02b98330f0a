pub mod LoopLaws
pub mod PartLaws
pub mod RowLaws
pub mod SetLaws
pub mod TabLaws
pub mod Vectors
pub mod Theorems
