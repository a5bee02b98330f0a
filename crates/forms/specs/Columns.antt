-- The columns of a line, which may stop early, and the columns that must be blank.
use Rattle.std.specs.Prelude.{ℕ, ◌+◌, ◌≡◌, cond, List, [], ◌∷◌, ◌++◌, take, drop, replicate, eqb, Option, Some, None}

-- columns a + 1 to a + n of a line; missing columns are blanks
unfoldable pub columns : List ℕ → ℕ → ℕ → List ℕ
columns line a n = take n (drop a (line ++ replicate (a + n) 32))

abbrev pub Blank : ℕ → Type 0
Blank b = b ≡ 32

-- n places further on
abbrev pub further : ℕ → Option ℕ → Option ℕ
further n (Some i) = Some (n + i)
further n None = None

-- the place, from 0, of the first byte that is no blank
unfoldable pub first_not_blank : List ℕ → Option ℕ
first_not_blank [] = None
first_not_blank (b ∷ bs) = cond (eqb b 32) (further 1 (first_not_blank bs)) (Some 0)
