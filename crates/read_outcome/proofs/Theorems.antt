-- The theorems told of what a text needs.
pub use Rattle.read_outcome.proofs.Once.{needs_once}
