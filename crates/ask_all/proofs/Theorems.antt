-- The theorems told of many questions in one call.
pub use Rattle.ask_all.proofs.Once.{asks_all_once, ask_all_once, refused_alike}
pub use Rattle.ask_all.proofs.Vectors.{three_asked, three_answered}
