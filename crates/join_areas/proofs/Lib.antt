pub mod StoreLaws
pub mod Stored
pub mod Once
pub mod Theorems
