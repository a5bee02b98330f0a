-- Stores one after the other.
use mathlib.Core.Path.{◌≡◌, sym, ap, ◌∙◌}
use mathlib.Core.List.{List, ◌++◌, append_assoc}
use Prim.Native.Nat.{ℕ, ◌+◌, ◌≤◌}
use native.Mathlib.Omega.{arith}
use lib.ListN.{length, length-append}
use lib.IntN.{ℤ}
use mir.Syntax.{w64}
use mir.Val.{to_z, of_z, SFits}
use mir.Facts.{to_z-of_z}
use lib.Seq.{sets}
use Rattle.kit.specs.Lists.{front}
pub use Rattle.kit.proofs.SetLaws.{sets_append, sets_front}

module _ {A : Type 0} where
  -- five lists, one behind the other
  pub sets_five : (a b c d e l : List A) (j k m n : ℕ) → j ≡ length a → k ≡ j + length b → m ≡ k + length c → n ≡ m + length d → n + length e ≤ length l
      → sets (sets (sets (sets (sets l 0 a) j b) k c) m d) n e ≡ front (a ++ (b ++ (c ++ (d ++ e)))) l
  sets_five a b c d e l j k m n p q r s h =
      let z : length (a ++ (b ++ (c ++ (d ++ e)))) ≤ length l = simp length-append (omega (arith, p, q, r, s, h)) in
      sets_append d e _ m n s ∙ sets_append c (d ++ e) _ k m r ∙ sets_append b (c ++ (d ++ e)) _ j k q ∙ sets_append a (b ++ (c ++ (d ++ e))) l 0 j (p ∙ omega arith)
      ∙ sets_front (a ++ (b ++ (c ++ (d ++ e)))) l z

  -- one more list behind what stands in front
  pub front_six : (a b c d e f l : List A) (n : ℕ) → n ≡ length (a ++ (b ++ (c ++ (d ++ e)))) → n + length f ≤ length l
      → sets (front (a ++ (b ++ (c ++ (d ++ e)))) l) n f ≡ front (a ++ (b ++ (c ++ (d ++ (e ++ f))))) l
  front_six a b c d e f l n p h =
      let x = a ++ (b ++ (c ++ (d ++ e))) in
      let y : x ++ f ≡ a ++ (b ++ (c ++ (d ++ (e ++ f)))) = simp append_assoc in
      ap (λ m. sets m n f) (sym (sets_front x l (omega (arith, p, h)))) ∙ sets_append x f l 0 n (p ∙ omega arith) ∙ ap (sets l 0) y
      ∙ sets_front (a ++ (b ++ (c ++ (d ++ (e ++ f))))) l (omega (arith, ap length y, length-append x f, p, h))

-- a number as it is kept in 64 bits
pub back : {r z : ℤ} → SFits w64 r → r ≡ z → to_z w64 (of_z w64 r) ≡ z
back f e = to_z-of_z f ∙ e
