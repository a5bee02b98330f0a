-- The theorems told of biases as they cross.
pub use Rattle.c_biases.proofs.BiasOnce.{ionex_biases_once}
