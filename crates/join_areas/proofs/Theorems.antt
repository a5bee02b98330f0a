-- The theorems told of joining in lent areas.
pub use Rattle.join_areas.proofs.Once.{untouched, done_given, joins_once}
