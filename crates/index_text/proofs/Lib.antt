pub mod MakeLaws
pub mod Once
pub mod Theorems
