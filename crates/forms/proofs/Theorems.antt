-- The theorems told of number fields.
pub use Rattle.forms.proofs.ShowLaws.{written_spells}
pub use Rattle.forms.proofs.Vectors.{halves_written}
