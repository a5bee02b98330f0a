-- Numbers of records and nodes of axes.
use Rattle.std.specs.Prelude.{Some, None}
use mathlib.Core.Path.{◌≡◌, sym, ap, ◌∙◌}
use mathlib.Core.Logic.{inl, inr, ⊎_elim}
use mathlib.Core.Bool.{true, false}
use Prim.Native.Nat.{ℕ}
use native.Mathlib.Decide.{ℕ_discrete}
use native.Mathlib.Omega.{arith}
use lib.Dec.{eqb}
use lib.IntN.{ℤ, pos, negsuc, nat_abs}
use lib.Signed.{le_z}
use mir.Syntax.{w32}
use mir.Val.{SFits, of_z}
use mir.Facts.{to_z-of_z}
use Rattle.kit.specs.Answer.{⊎_dec}
use Rattle.kit.proofs.AnswerLaws.{pick_yes, pick_no}
use Rattle.kit.specs.Integer.{int?}
use Rattle.kit.proofs.Parts.{from_bits}
use Rattle.mapset.specs.declared.Axis.{Axis}
use Rattle.maps_agree.specs.Agreement.{differing}
use Rattle.kit.specs.Truth.{truth}
use Rattle.kit.proofs.TruthLaws.{holds, fails, truth_same, eq_tells}

-- ---- the number of a map

pub count_none : (z : ℤ) (n : ℕ) → le_z (pos 0) z ≡ false → false ≡ truth (int? z (pos n))
count_none (pos m) n e = grind arith
count_none (negsuc m) n e = fails (int? (negsuc m) (pos n)) (λ q. cc)

pub count_some : (z : ℤ) (n : ℕ) → le_z (pos 0) z ≡ true → eqb (nat_abs z) n ≡ truth (int? z (pos n))
count_some (pos m) n e = eq_tells m n ∙ truth_same (ℕ_discrete m n) (int? (pos m) (pos n)) (λ p. ap pos p) (λ p. cc)
count_some (negsuc m) n e = cc

-- ---- H

module _ (d : ℕ) (z w : ℤ) where
  pub any_height : d ≡ 2 → true ≡ truth (⊎_dec (ℕ_discrete d 2) (int? z w))
  any_height e = holds (⊎_dec (ℕ_discrete d 2) (int? z w)) (inl e)

  pub this_height : ¬ (d ≡ 2) → truth (int? z w) ≡ truth (⊎_dec (ℕ_discrete d 2) (int? z w))
  this_height n = truth_same (int? z w) (⊎_dec (ℕ_discrete d 2) (int? z w)) (λ e. inr e) (λ s. ⊎_elim (λ e. absurd (n e)) (λ e. e) s)

-- ---- the three numbers of the longitudes

pub same_number : {x y : ℤ} → SFits w32 x → SFits w32 y → of_z w32 x ≡ of_z w32 y → x ≡ y
same_number {x} {y} f g e = from_bits w32 x (of_z w32 y) f e ∙ to_z-of_z g

module _ (a : Axis) (x y z : ℤ) where
  pub first_differs : ¬ (x ≡ a.first) → Some 9 ≡ differing a x y z
  unfolding differing
  first_differs n = sym (pick_no _ _ _ n)

  module _ (p : x ≡ a.first) where
    pub last_differs : ¬ (y ≡ a.last) → Some 15 ≡ differing a x y z
    unfolding differing
    last_differs n = sym (pick_yes _ _ _ p ∙ pick_no _ _ _ n)

    module _ (q : y ≡ a.last) where
      pub step_differs : ¬ (z ≡ a.step) → Some 21 ≡ differing a x y z
      unfolding differing
      step_differs n = sym (pick_yes _ _ _ p ∙ pick_yes _ _ _ q ∙ pick_no _ _ _ n)

      pub none_differs : z ≡ a.step → None ≡ differing a x y z
      unfolding differing
      none_differs e = sym (pick_yes _ _ _ p ∙ pick_yes _ _ _ q ∙ pick_yes _ _ _ e)
