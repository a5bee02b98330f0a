-- The theorems told of a delay at a place and second.
pub use Rattle.ask_delay.proofs.AskDelayLaws.{km_kind}
pub use Rattle.ask_delay.proofs.Once.{ask_delays_once, ask_delay_once}
