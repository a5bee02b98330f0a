-- The theorems told of a text's biases in lent areas.
pub use Rattle.bias_text.proofs.Once.{untouched, made_answered, biases_once}
