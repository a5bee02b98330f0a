-- The theorems told of what a joined set answers.
pub use Rattle.join_ask.proofs.Contract.{result_valid, result_read_again, result_early, result_late, either_way_code, either_way_code_roomy}
pub use Rattle.join_ask.proofs.AskJoined.{ask_early, ask_late, served_joined}
pub use Rattle.join_ask.proofs.AskLent.{ask_lent_early, ask_lent_late}
