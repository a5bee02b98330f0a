-- 01, 11: the areas are TEC, RMS, height, exponents, epochs, marks, 1 to 6, and the first that is too short is told, with what it needs.
use mathlib.Core.Path.{◌≡◌, refl}
use mathlib.Core.Option.{Option, none, some}
use Prim.Native.Nat.{ℕ}
use native.Mathlib.Decide.{dec_le}
use Rattle.kit.specs.Answer.{pick}
use Rattle.read_needs.specs.Needs.{pairs, first_short}
use Rattle.read_needs.specs.declared.Elements.{Elements}

abbrev elements : (tec rms height exponents epochs marks : ℕ) → Elements
elements a b c d e f = record { tec = a; rms = b; height = c; exponents = d; epochs = e; marks = f }

abbrev shortest : Elements → Option (ℕ × ℕ)
shortest lent = first_short 1 (pairs (elements 10 20 30 40 50 60) lent)

-- one element too few, and every later area too short as well
pub short_in_order : (shortest (elements 9 0 0 0 0 0) ≡ some (1, 10))
    × (shortest (elements 10 19 0 0 0 0) ≡ some (2, 20))
    × (shortest (elements 10 20 29 0 0 0) ≡ some (3, 30))
    × (shortest (elements 10 20 30 39 0 0) ≡ some (4, 40))
    × (shortest (elements 10 20 30 40 49 0) ≡ some (5, 50))
    × (shortest (elements 10 20 30 40 50 59) ≡ some (6, 60))
    × (shortest (elements 10 20 30 40 50 60) ≡ none)
unfolding first_short pick dec_le
short_in_order = (refl, refl, refl, refl, refl, refl, refl)
