-- 02, Ask 9, 'a COMMENT where 01 allows it': where a COMMENT is refused.
use Rattle.std.proofs.Math.Option.{Option, none, some}
use Rattle.std.specs.Prelude.{List, ℕ, suc}
use Rattle.mapset.specs.declared.Header.{Header}
use Rattle.layout.specs.Layout.{Force}
use Rattle.reading.specs.declared.Why.{Why}
use Rattle.refusals.specs.Faulty.{Place, ended, Standing, opening, mapping, FaultyFrom, by_bytes, by_row, past_blank, past_row, at_end_of_text}

-- the line that is refused, where it is one of printable bytes, not too long and not blank; and what stands before it
abbrev pub row_at_fault : {st : Standing} {n : ℕ} {ls : List (List ℕ)} {w : Why} → FaultyFrom st n ls w → Option (List ℕ × Standing)
row_at_fault (by_bytes b) = none
row_at_fault (by_row {st} {n} {l} c d b) = some (l, st)
row_at_fault (past_blank c d x) = row_at_fault x
row_at_fault (past_row st' c d r x) = row_at_fault x
row_at_fault (at_end_of_text n) = none

-- it is the first row; or a value line is due; or END OF FILE has stood
pub data NoComment : Standing → Type 0 where
  first_row : NoComment opening
  value_due : {h : Header} {q : Place} {p : Force} {c : ℕ} → NoComment (mapping h q p (suc c))
  behind_file : {h : Header} {p : Force} → NoComment (mapping h ended p 0)
