-- The theorems told of years and months.
pub use Rattle.days.proofs.FormulaLaws.{years_by_formula}
