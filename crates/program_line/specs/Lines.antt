-- The one-line answers, each with its LF.
use Rattle.std.specs.Prelude.{◌≡◌, List, [], ◌∷◌, ◌++◌, ℕ, ◌+◌, ◌≤◌, length, take}
use Rattle.forms.specs.Show.{digits}
use Rattle.layout.specs.Labels.{bytes}
use Rattle.areas.specs.Lists.{flat}
use Rattle.read_outcome.specs.Outcome.{ToldReading, accepted, at_place, eleven}

abbrev lf : List ℕ
lf = 10 ∷ []

unfoldable pub place_line : (number line column : ℕ) → List ℕ
place_line k l c = flat (bytes "refused " ∷ digits 1 k ∷ bytes " line " ∷ digits 1 l ∷ bytes " column " ∷ digits 1 c ∷ lf ∷ [])

unfoldable pub area_line : (area need : ℕ) → List ℕ
area_line a n = flat (bytes "refused 11 area " ∷ digits 1 a ∷ bytes " needs " ∷ digits 1 n ∷ lf ∷ [])

unfoldable pub need_line : (need : ℕ) → List ℕ
need_line n = flat (bytes "refused 30 needs " ∷ digits 1 n ∷ lf ∷ [])

unfoldable pub unsound_line : List ℕ
unsound_line = bytes "refused 31" ++ lf

unfoldable pub big_line : List ℕ
big_line = bytes "text too big" ++ lf

-- of a refusal; what is accepted has no such line
abbrev pub line_of : ToldReading → List ℕ
line_of (accepted h) = []
line_of (at_place k l c) = place_line k l c
line_of (eleven a n) = area_line a n

-- ---- bytes in an output

-- its first r bytes are x
pub record Begins (o : List ℕ) (r : ℕ) (x : List ℕ) : Type 0 where
  pub within : r ≤ length o
  pub front : take r o ≡ x

-- x is added to the first `at` bytes of o, which becomes o'
pub record Adds (o : List ℕ) (at : ℕ) (x o' : List ℕ) (r : ℕ) : Type 0 where
  pub moved : r ≡ at + length x
  pub size : length o' ≡ length o
  pub front : take r o' ≡ take at o ++ x
