-- The label of a line that may stop early, as a place in 01's list of labels.
use Rattle.std.specs.Prelude.{Bool, true, false, ◌&&◌, List, [], ◌∷◌, map, ℕ, suc, eqb, get_or}
use Rattle.layout.specs.Labels.{name, labels}

-- the line's columns from a on, counted from 0, hold these bytes; a missing column is a blank
abbrev pub holds : List ℕ → ℕ → List ℕ → Bool
holds s a [] = true
holds s a (x ∷ xs) = eqb (get_or s a 32) x && holds s (suc a) xs

-- the place of the first of these names that the columns from a on hold, else the number of names
abbrev pub place_of : List ℕ → ℕ → List (List ℕ) → ℕ
place_of s a [] = 0
place_of s a (n ∷ ns) = elim (holds s a n) [ true ↦ 0 | false ↦ suc (place_of s a ns) ]

unfoldable pub names : List (List ℕ)
names = map name labels

unfoldable pub number_of : List ℕ → ℕ
number_of s = place_of s 60 names
