-- The theorems told of writing.
pub use Rattle.write_text.proofs.Exactly.{written_read, write_once, refused_exactly}
pub use Rattle.write_text.proofs.Sample.{not_refused}
