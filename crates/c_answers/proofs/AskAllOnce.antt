-- No second answer fits.
use mathlib.Core.Path.{◌≡◌, refl, sym, ◌∙◌}
use mathlib.Core.List.{List}
use Prim.Native.Nat.{ℕ}
use native.Mathlib.Omega.{arith}
use lib.IntN.{ℤ}
use Rattle.ask.specs.Ask.{Question}
use Rattle.ask_all.specs.AskAll.{Places, Slots}
use Rattle.ask_all.proofs.Once.{asks_all_once}
use Rattle.c_answers.specs.AskAllExported.{AskAllCrosses, short, answered}

module _ (h : List ℤ) (x : List ℕ) (at : ℤ → ℤ → ℕ → Question) (p : Places) (l : Slots) where
  pub ionex_ask_all_once : {n k : ℕ} {m m' : Slots} → AskAllCrosses h x at p l n m → AskAllCrosses h x at p l k m' → (n ≡ k) × (m ≡ m')
  ionex_ask_all_once (short n e a) (short k f b) = (e ∙ sym f, refl)
  ionex_ask_all_once (short n e a) (answered f k m r) = absurd (omega (arith, e, f))
  ionex_ask_all_once (answered e n m r) (short k f a) = absurd (omega (arith, e, f))
  ionex_ask_all_once (answered e n m r) (answered f k m' s) = asks_all_once at p l r s
