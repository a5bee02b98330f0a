-- What the function that puts the text asks of its caller, and the rows that it puts.
use Rattle.std.specs.Prelude.{List, ℕ}
use Rattle.mapset.specs.declared.Header.{Header}
use Rattle.mapset.specs.Described.{FullTexts}
use Rattle.mapset.specs.Areas.{Areas}
use Rattle.areas.specs.Valid.{Valid}
use Rattle.areas.specs.Nesting.{nested}
use Rattle.canonical.specs.Canon.{canon_rows}
use Rattle.write_line.specs.Put.{LineRoom}

-- the rows of the canonical text of what is lent
abbrev pub canon_rows_of : Header → FullTexts → Areas → List (List ℕ)
canon_rows_of h t a = canon_rows (nested h t a)

-- what is lent has such a text, and the position after it can be counted
abbrev pub Writable : Header → FullTexts → Areas → (at : ℕ) → Type 0
Writable h t a at = Valid h t a × LineRoom at (canon_rows_of h t a)
