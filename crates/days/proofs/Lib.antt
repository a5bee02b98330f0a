pub mod FormulaLaws
pub mod SumLaws
pub mod YearLaws
pub mod Theorems
