-- The theorems told of the exports.
pub use Rattle.c_answers.proofs.MoveOnce.{ionex_moved_once}
pub use Rattle.c_answers.proofs.Back.{header_back, texts_back}
pub use Rattle.c_answers.proofs.Vectors.{numbers_told, own_too_short, needs_listed, header_in_numbers}
pub use Rattle.c_answers.proofs.ReadOnce.{ionex_read_once}
pub use Rattle.c_answers.proofs.NeedsOnce.{ionex_needs_once}
pub use Rattle.c_answers.proofs.WriteOnce.{ionex_write_once}
pub use Rattle.c_answers.proofs.AskOnce.{ionex_ask_once}
pub use Rattle.c_answers.proofs.AskAllOnce.{ionex_ask_all_once}
pub use Rattle.c_answers.proofs.DelayOnce.{ionex_tecu_delay_once, ionex_delay_once}
pub use Rattle.c_answers.proofs.JoinOnce.{ionex_join_once}
