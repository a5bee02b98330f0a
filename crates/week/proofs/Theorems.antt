-- The theorems told of a week.
pub use Rattle.week.proofs.WeekLaws.{week_spans, week_sum}
pub use Rattle.week.proofs.SaneLaws.{answered_permuted, answered_week, add_once, kept_added, refused_rows, sane_added, behind_kept}
pub use Rattle.week.proofs.Vectors.{ninety_nine, hundred}
