-- No second answer fits.
use mathlib.Core.Path.{◌≡◌, refl, sym, ◌∙◌}
use mathlib.Core.List.{List}
use Prim.Native.Nat.{ℕ}
use native.Mathlib.Omega.{arith}
use lib.IntN.{ℤ}
use Rattle.kit.specs.Lists.{front}
use Rattle.ask.specs.Ask.{Question, told_number}
use Rattle.ask_why.specs.Explain.{told}
use Rattle.ask_why.proofs.Once.{explain_once}
use Rattle.c_why.specs.ExplainExported.{told_nodes, told_lacking, ExplainCrosses, short, answered}

module _ (h : List ℤ) (x : List ℕ) (q : Question) (v : List ℤ) (l : List ℕ) where
  pub ionex_explain_once : {n m : ℕ} {u w : List ℤ} {a b : List ℕ} → ExplainCrosses h x q v l n u a → ExplainCrosses h x q v l m w b → (n ≡ m) × ((u ≡ w) × (a ≡ b))
  ionex_explain_once (short k e a) (short j f b) = (e ∙ sym f, (refl, refl))
  ionex_explain_once (short k e a) (answered f t s) = absurd (omega (arith, e, f))
  ionex_explain_once (answered e t s) (short k f a) = absurd (omega (arith, e, f))
  ionex_explain_once (answered e t s) (answered f t' s') =
      let p = explain_once q t t' s s' in
      (λ i. told_number (told (p i).answer), (λ i. front (told_nodes (p i) (p i).answer) v, λ i. front (told_lacking (p i).answer) l))
