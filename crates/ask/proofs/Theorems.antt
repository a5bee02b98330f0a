-- The theorems told of asking.
pub use Rattle.ask.proofs.Once.{answers_once, ask_once, number_once}
pub use Rattle.ask.proofs.Reckonings.{reckonings, not_served}
pub use Rattle.ask.proofs.AtEpoch.{methods_agree, at_node, sun_at_epoch, nearest_sun_at_epoch}
pub use Rattle.ask.proofs.Between.{between}
pub use Rattle.ask.proofs.Strip.{strip_nodes, strip_ends, left_weight, right_weight, inside_round}
pub use Rattle.ask.proofs.SunSample.{not_rounded_in_each_map, sun_answer, nearest_sun_answer, strip_answer}
pub use Rattle.ask.proofs.ClosedSample.{closed_answer, nearest_closed_answer}
pub use Rattle.ask.proofs.Reckoned.{reckoned}
pub use Rattle.ask.proofs.Sample.{not_refused}
pub use Rattle.ask.proofs.WholeTurn.{whole_turn}
