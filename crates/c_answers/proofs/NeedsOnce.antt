-- No second answer fits.
use mathlib.Core.Path.{◌≡◌, refl, ap}
use mathlib.Core.Logic.{◌⊎◌, ⊎_elim}
use mathlib.Core.List.{List}
use Prim.Native.Nat.{ℕ, ◌≤◌, ◌<◌}
use native.Mathlib.Omega.{arith}
use lib.ListN.{length}
use Rattle.kit.specs.Lists.{front}
use Rattle.read_outcome.proofs.Once.{needs_once}
use Rattle.c_answers.specs.NeedsExported.{number, told_needs, place, NeedsCross, area_short, answered}

roomy : (n p : List ℕ) {X : Type 0} → (length n < 6) ⊎ (length p < 2) → 6 ≤ length n → 2 ≤ length p → X
roomy n p s a b = absurd (⊎_elim (λ h. omega arith) (λ h. omega arith) s)

module _ (t n p : List ℕ) where
  pub ionex_needs_once : {j k : ℕ} {u v x y : List ℕ} → NeedsCross t n p j u x → NeedsCross t n p k v y → (j ≡ k) × ((u ≡ v) × (x ≡ y))
  ionex_needs_once (area_short a) (area_short b) = (refl, (refl, refl))
  ionex_needs_once (area_short s) (answered a b m e) = roomy n p s a b
  ionex_needs_once (answered a b m e) (area_short s) = roomy n p s a b
  ionex_needs_once (answered a b m e) (answered c d k f) =
      let z = needs_once t m k e f in
      (ap number z, (ap (λ m. front (told_needs m) n) z, ap (λ m. front (place m) p) z))
