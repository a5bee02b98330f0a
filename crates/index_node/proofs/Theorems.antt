-- The theorems told of one node by an index.
pub use Rattle.index_node.proofs.Once.{node_once, block_once, block_empty, block_refused}
