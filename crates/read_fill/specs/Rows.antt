-- The rows that the second scan meets.
use Rattle.std.specs.Prelude.{List, [], ◌∷◌, ℕ, zero, suc, ◌-◌, drop, pos}
use Rattle.std.proofs.Math.Option.{Option}
use Rattle.layout.specs.Labels.{Label}
use Rattle.reading.specs.Feed.{Feed, over, bad, row, split, feed}
use Rattle.reading.specs.Fields.{label, cells}
use Rattle.reading.specs.Maps.{on_row}
use Rattle.read_values.specs.Values.{Okay}
use Rattle.areas.specs.Scan.{at_first, turn}

-- the rows that lines hand on, without their numbers
unfoldable pub rows_of : Feed → List (List ℕ)
rows_of (over n) = []
rows_of (bad w) = []
rows_of (row n r f) = r ∷ rows_of f

-- from the line that starts at a place of a text
abbrev pub rows_from : List ℕ → ℕ → List (List ℕ)
rows_from t at = rows_of (feed 1 (split (drop at t)))

-- how many values come behind a row, by its label
abbrev pub due_behind : ℕ → Option Label → ℕ
due_behind C o = (turn C (at_first (pos 0)) o [] []).due

-- where c values come first: these, and those of each block behind them, are there
unfoldable pub Valued : (C c : ℕ) → List (List ℕ) → Type 0
Valued C zero [] = Unit {0}
Valued C (suc c) [] = ⊥
Valued C zero (r ∷ rs) = Valued C (due_behind C (label r)) rs
Valued C (suc c) (r ∷ rs) = Okay (cells 1 (on_row (suc c)) r) × Valued C (suc c - 16) rs
