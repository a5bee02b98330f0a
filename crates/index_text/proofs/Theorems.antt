-- The theorems told of the making of an index.
pub use Rattle.index_text.proofs.Once.{made_as_read, node_as_read, index_once, refused_as_read}
