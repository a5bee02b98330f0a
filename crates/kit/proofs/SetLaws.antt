-- Stores one after the other.
use mathlib.Core.Path.{◌≡◌, ap, ◌∙◌}
use mathlib.Core.List.{List, [], ◌∷◌, ◌++◌, append_assoc}
use Prim.Native.Nat.{ℕ, suc, ◌+◌, ◌-◌, ◌≤◌}
use native.Mathlib.Omega.{arith}
use lib.ListN.{length, set, drop}
use lib.Seq.{sets, sets-eq, drop-drop}
use borrow.Rule.Slice.PartMut.{put_mid}
use Rattle.kit.specs.Lists.{front}

module _ {A : Type 0} where
  -- two and three stores, each of a number as it is kept
  pub sets_two : (l : List A) (p : ℕ) {x y a b : A} → x ≡ a → y ≡ b → set (set l p x) (p + 1) y ≡ sets l p (a ∷ b ∷ [])
  sets_two l p e f = let q : p + 1 ≡ suc p = omega arith in λ i. set (set l p (e i)) (q i) (f i)

  pub sets_three : (l : List A) (p : ℕ) {x y z a b c : A} → x ≡ a → y ≡ b → z ≡ c → set (set (set l p x) (p + 1) y) (p + 2) z ≡ sets l p (a ∷ b ∷ c ∷ [])
  sets_three l p e f g = let q : p + 2 ≡ suc (suc p) = omega arith in λ i. set (sets_two l p e f i) (q i) (g i)

  pub sets_append : (xs ys l : List A) (p k : ℕ) → k ≡ p + length xs → sets (sets l p xs) k ys ≡ sets l p (xs ++ ys)
  sets_append [] ys l p k e = ap (λ j. sets l j ys) (e ∙ omega arith)
  sets_append (x ∷ xs) ys l p k e = sets_append xs ys (set l p x) (suc p) k (e ∙ omega arith)

  pub sets_front : (xs l : List A) → length xs ≤ length l → sets l 0 xs ≡ front xs l
  sets_front xs l h =
      let e : 0 + length xs ≡ length xs = omega arith in
      sets-eq xs l 0 (omega arith) ∙ ap (λ k. xs ++ drop k l) e

-- a part that has come back as `row`
pub mid_sets : {A : Type 0} (l row xs : List A) (at k : ℕ) → k ≡ length row → at + k ≤ length l → xs ≡ row → put_mid at (at + k - at) l xs ≡ sets l at row
mid_sets l row xs at k z h e =
    let j : at + k - at ≡ length row = omega arith in
    rw (e, j, sets-eq row l at (omega arith), drop-drop (length row) at l, append_assoc)
