-- No second answer fits.
use mathlib.Core.Path.{◌≡◌, refl, sym, ◌∙◌}
use mathlib.Core.List.{List}
use Prim.Native.Nat.{ℕ}
use native.Mathlib.Omega.{arith}
use lib.IntN.{ℤ}
use Rattle.kit.specs.Lists.{front}
use Rattle.ask.specs.Ask.{Question, told_number}
use Rattle.ask.proofs.Once.{answers_once}
use Rattle.c_answers.specs.AskExported.{told_value, AskCrosses, short, answered}

module _ (h : List ℤ) (x : List ℕ) (q : Question) (v : List ℤ) where
  pub ionex_ask_once : {n m : ℕ} {u w : List ℤ} → AskCrosses h x q v n u → AskCrosses h x q v m w → (n ≡ m) × (u ≡ w)
  ionex_ask_once (short k e a) (short l f b) = (e ∙ sym f, refl)
  ionex_ask_once (short k e a) (answered f t s) = absurd (omega (arith, e, f))
  ionex_ask_once (answered e t s) (short k f a) = absurd (omega (arith, e, f))
  ionex_ask_once (answered e t s) (answered f t' s') =
      let p = answers_once q t t' s s' in
      (λ i. told_number (p i), λ i. front (told_value (p i)) v)
