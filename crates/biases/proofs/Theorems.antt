-- The theorems told of biases: exact both ways, and their refusals.
pub use Rattle.biases.proofs.Exact.{refused_unmade, biases_exactly, biases_made_once, maps_first}
pub use Rattle.biases.proofs.Vectors.{two_blocks_read, later_read, twice_read}
pub use Rattle.biases.proofs.Fine.{made_fine}
pub use Rattle.biases.proofs.Refusals.{biases_refused}
