mod RowsLaws
pub mod Short
pub mod Exactly
pub mod Sample
pub mod WriteLaws
pub mod Theorems
