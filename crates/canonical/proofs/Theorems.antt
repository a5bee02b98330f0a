-- The theorems told of canonical text.
pub use Rattle.canonical.proofs.Vectors.{full_areas, full_written}
pub use Rattle.canonical.proofs.Exact.{valid_exactly, round_trip, read_again}
pub use Rattle.canonical.proofs.Made.{canon_made}
