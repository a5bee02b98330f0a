-- The theorems told of the figures of a map set.
pub use Rattle.week_set.proofs.SetLaws.{kind_maps, map_spans, kind_spans, map_counts, kind_counts}
pub use Rattle.week_set.proofs.PartLaws.{absent_figures}
pub use Rattle.week_set.proofs.Vectors.{rows_added}
