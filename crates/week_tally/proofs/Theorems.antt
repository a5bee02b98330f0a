-- The theorems told of figures.
pub use Rattle.week_tally.proofs.FigureLaws.{figures_append, fit_figures}
pub use Rattle.week_tally.proofs.Vectors.{four_nodes}
pub use Rattle.week_tally.proofs.GatheredLaws.{gathered_permuted}
