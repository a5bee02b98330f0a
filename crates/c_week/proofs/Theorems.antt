-- The theorems told of a week as it crosses.
pub use Rattle.c_week.proofs.Back.{week_back, zero_week, broken_insane}
pub use Rattle.c_week.proofs.WeekOnce.{ionex_week_add_once}
pub use Rattle.c_week.proofs.Vectors.{numbers_told, week_in_numbers}
