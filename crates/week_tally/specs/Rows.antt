-- Figures as they are told in an area: five numbers to a row.
use Rattle.std.specs.Prelude.{Option, Some, None, List, [], ◌∷◌, ℤ, pos}
use Rattle.week_tally.specs.declared.Tally.{Tally}
use Rattle.week_tally.specs.declared.Range.{Range}

-- 0 where there is none
abbrev pub smallest : Option Range → ℤ
smallest None = pos 0
smallest (Some r) = r.smallest

abbrev pub largest : Option Range → ℤ
largest None = pos 0
largest (Some r) = r.largest

-- how many nodes have a value and how many none, the smallest and the largest value, the sum
abbrev pub row : Tally → List ℤ
row t = pos t.given ∷ pos t.lacking ∷ smallest t.range ∷ largest t.range ∷ t.sum ∷ []
