pub mod DateLaws
pub mod FieldLaws
pub mod Once
pub mod Theorems
