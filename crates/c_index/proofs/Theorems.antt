-- The theorems told of an index as it crosses.
pub use Rattle.c_index.proofs.IndexOnce.{ionex_index_once}
pub use Rattle.c_index.proofs.NodeOnce.{ionex_indexed_node_once, ionex_indexed_block_once}
