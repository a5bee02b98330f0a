pub mod AskLaws
pub mod Once
pub mod Theorems
