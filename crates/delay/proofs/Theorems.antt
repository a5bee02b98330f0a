-- The theorems told of delays.
pub use Rattle.delay.proofs.Literals.{factor_exact}
pub use Rattle.delay.proofs.Vectors.{one_at_l1, in_order, extremes, limits, nan_refused, infinite_refused}
pub use Rattle.delay.proofs.Finite.{served_finite, delay_zero}
pub use Rattle.delay.proofs.DelayLaws.{delay_once, delays_once}
