pub mod FieldLaws
pub mod RowLaws
