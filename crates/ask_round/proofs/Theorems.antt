-- The theorems told of rounding.
pub use Rattle.ask_round.proofs.RoundLaws.{nearest_unique}
