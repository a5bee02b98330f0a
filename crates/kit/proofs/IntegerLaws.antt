-- A law of signed numbers: equal bits.
use mathlib.Core.Path.{◌≡◌, ap, ◌∙◌}
use native.Mathlib.Decide.{ℕ_discrete}
use lib.Dec.{eqb}
use lib.IntN.{ℤ}
use mir.Syntax.{Width}
use mir.Val.{SFits, of_z}
use mir.Facts.{to_z-of_z}
use Rattle.kit.specs.Integer.{int?}
use Rattle.kit.proofs.Parts.{from_bits}
use Rattle.kit.specs.Truth.{truth}
use Rattle.kit.proofs.TruthLaws.{truth_same, eq_tells}

-- equal bits, equal numbers
pub same_bits : (w : Width) (x y : ℤ) → SFits w x → SFits w y → eqb (of_z w x) (of_z w y) ≡ truth (int? x y)
same_bits w x y f g =
    eq_tells (of_z w x) (of_z w y)
    ∙ truth_same (ℕ_discrete (of_z w x) (of_z w y)) (int? x y) (λ e. from_bits w x (of_z w y) f e ∙ to_z-of_z g) (λ e. ap (of_z w) e)
