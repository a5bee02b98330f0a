-- The theorems told of reading into lent areas.
pub use Rattle.read_text.proofs.Once.{short_exactly, accepts_exactly, read_once, untouched}
pub use Rattle.read_text.proofs.Needed.{needs_suffice, never_eleven, else_eleven, refused_alike}
pub use Rattle.read_text.proofs.Wrong.{not_constant, not_left, not_map_one, not_another_need, not_another_line, not_refused, not_other_needs}
