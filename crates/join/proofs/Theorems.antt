-- The theorems told of two map sets joined.
pub use Rattle.join.proofs.JoinedAreas.{joined_areas}
pub use Rattle.join.proofs.IntoLaws.{lent_areas, joined_valid, either_way_lent, either_way_roomy, never_short, large}
pub use Rattle.join.proofs.JoinedFormed.{joined_formed}
pub use Rattle.join.proofs.Exactly.{join_exactly, join_once}
pub use Rattle.join.proofs.IntoExactly.{lent_exactly, lent_once}
pub use Rattle.join.proofs.Vectors.{limits_at, refusals_in_order, too_many, interval_kept, later_header}
pub use Rattle.join.proofs.Sample.{two_days, leftwards_40, rightwards_41}
pub use Rattle.join.proofs.EitherWay.{either_way}
pub use Rattle.join.proofs.Grouping.{any_grouping, groupings}
