-- The promises of 02 told over the contracts of the exported functions.
pub use Rattle.c_promises.proofs.WeekOrder.{adds_week, any_order}
pub use Rattle.c_promises.proofs.NodeRead.{node_crossed, block_crossed, node_as_left}
pub use Rattle.c_promises.proofs.ThreeSets.{either_way_crossed}
