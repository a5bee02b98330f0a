-- The theorems told of an index and what it answers.
pub use Rattle.index.proofs.Vectors.{small_index, entries_apart, outside_by_one, refusals_in_order}
pub use Rattle.index.proofs.Once.{reply_once}
pub use Rattle.index.proofs.AsRead.{indexed_as_read}
pub use Rattle.index.proofs.FoundLaws.{stands_exactly}
pub use Rattle.index.proofs.OpensLaws.{line_decides, stands_both, answered_opens}
