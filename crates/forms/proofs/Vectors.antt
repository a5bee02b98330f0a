-- Five tenths, written: a digit stands before the point.
use mathlib.Core.Path.{◌≡◌, refl}
use mathlib.Core.List.{[], ◌∷◌}
use lib.IntN.{pos, negsuc}
use Rattle.forms.specs.Form.{W1}
use Rattle.forms.specs.Show.{digits, aligned, show_field}

-- `0.5` and `-0.5`, right-aligned in six columns
pub halves_written : (show_field W1 6 (pos 5) ≡ 32 ∷ 32 ∷ 32 ∷ 48 ∷ 46 ∷ 53 ∷ []) × (show_field W1 6 (negsuc 4) ≡ 32 ∷ 32 ∷ 45 ∷ 48 ∷ 46 ∷ 53 ∷ [])
unfolding show_field aligned digits
halves_written = (refl, refl)
