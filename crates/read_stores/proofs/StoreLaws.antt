-- Laws of the stores.
use mathlib.Core.Path.{◌≡◌, sym, ap}
use mathlib.Core.Logic.{◌⊎◌, inl, inr, ⊎_elim}
use mathlib.Core.Bool.{true, false}
use Prim.Native.Nat.{ℕ}
use mathlib.Core.List.{List}
use lib.ListN.{set}
use Rattle.kit.proofs.AnswerLaws.{pick_yes, pick_no}
use Rattle.mapset.specs.Areas.{present?}
use Rattle.mapset.specs.declared.Kind.TheVariants.{Rms, Height}
use Rattle.areas.specs.Flat.{mark}
use Rattle.areas.specs.Stores.{with_mark}

pub set_both : {A : Type 0} (l : List A) {p q : ℕ} {e f : A} → p ≡ q → e ≡ f → set l p e ≡ set l q f
set_both l x y = λ i. set l (x i) (y i)

-- ---- marks

module _ (m : ℕ) where
  pub rms_both : (m ≡ 2) ⊎ (¬ (m ≡ 2) × (m ≡ 3)) → 3 ≡ with_mark Rms m
  rms_both e = sym (ap (mark true) (pick_yes (present? Height m) true false (⊎_elim inl (λ x. inr x.1) e)))

  pub rms_alone : ¬ (m ≡ 2) → ¬ (m ≡ 3) → 1 ≡ with_mark Rms m
  rms_alone a b = sym (ap (mark true) (pick_no (present? Height m) true false (⊎_elim a b)))

  pub height_both : (m ≡ 1) ⊎ (¬ (m ≡ 1) × (m ≡ 3)) → 3 ≡ with_mark Height m
  height_both e = sym (ap (λ b. mark b true) (pick_yes (present? Rms m) true false (⊎_elim inl (λ x. inr x.1) e)))

  pub height_alone : ¬ (m ≡ 1) → ¬ (m ≡ 3) → 2 ≡ with_mark Height m
  height_alone a b = sym (ap (λ b. mark b true) (pick_no (present? Rms m) true false (⊎_elim a b)))
