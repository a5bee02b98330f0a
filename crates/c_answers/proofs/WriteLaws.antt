-- A writing as it crosses, case by case.
use mathlib.Core.Path.{◌≡◌, sym, ap, ◌∙◌}
use mathlib.Core.List.{List}
use Prim.Native.Nat.{ℕ, ◌≤◌}
use native.Mathlib.Omega.{arith}
use lib.IntN.{ℤ}
use lib.ListN.{length}
use Rattle.mapset.specs.Areas.{Areas}
use Rattle.kit.specs.Lists.{front}
use Rattle.c_given.specs.Given.{header_of, texts_of}
use Rattle.write_text.specs.Write.{ToldWriting, written}
use Rattle.c_answers.specs.Own.{too_short}
use Rattle.c_answers.proofs.OwnLaws.{unless_none, unless_short}
use Rattle.c_answers.specs.WriteExported.{told_number, told_count, crossed, crosses, write_crossed}

module _ (h : List ℤ) (x : List ℕ) (a : Areas) (o c : List ℕ) where
  pub write_short : {k : ℕ} → k ≡ too_short (length h) (length x) (length c) 1 → 1 ≤ k → crossed k o c ≡ write_crossed h x a o c
  unfolding write_crossed
  write_short e p = ap (λ k. crossed k o c) e ∙ sym (unless_short _ (λ k. crossed k o c) (omega (arith, e, p)))

  pub write_answer : too_short (length h) (length x) (length c) 1 ≡ 0 → (t : ToldWriting) {k : ℕ} {o' c' : List ℕ}
      → ◌≡◌ {A = ToldWriting × List ℕ} (t, o') (written (header_of h) (texts_of x) a o) → k ≡ told_number t → c' ≡ front (told_count t) c
      → crossed k o' c' ≡ write_crossed h x a o c
  unfolding write_crossed crosses
  write_answer n t {o' = o'} e u v = (λ i. crossed (u i) o' (v i)) ∙ ap (λ w. crosses w c) e ∙ sym (unless_none _ (λ k. crossed k o c) n)
