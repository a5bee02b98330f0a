-- The theorems told of what the program prints.
pub use Rattle.program_text.proofs.Exactly.{made_printed, empty_printed}
pub use Rattle.program_text.proofs.Said.{too_big, area_said, values_said, place_said, said}
