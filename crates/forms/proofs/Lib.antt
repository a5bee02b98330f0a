pub mod ColumnLaws
pub mod FieldLaws
pub mod ShowLaws
pub mod Vectors
pub mod Theorems
pub mod Options
