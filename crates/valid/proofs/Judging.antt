-- Laws of the loops that judge: the answer from an index on.
use mathlib.Core.Path.{◌≡◌, refl, sym, ap, ◌∙◌}
use mathlib.Core.Bool.{true, false}
use mathlib.Core.Logic.{◌⊎◌}
use mathlib.Core.List.{List, [], ◌∷◌}
use Prim.Native.Nat.{ℕ, zero, suc, min, ◌+◌, ◌≤◌, ◌<◌}
use native.Mathlib.Numerals.{add-one}
use native.Mathlib.Omega.{arith}
use native.Mathlib.Decide.{dec_lt}
use lib.IntN.{ℤ}
use lib.ListN.{length, get_or, take, drop, drop_of_length-le}
use lib.Seq.{drop-cons}
use Rattle.kit.specs.Answer.{All, all_dec}
use Rattle.kit.specs.Integer.{Between, int?, between?}
use Rattle.kit.proofs.Parts.{eq_parts, parts_le, le_parts}
use Rattle.kit.specs.Truth.{truth}
use Rattle.kit.proofs.TruthLaws.{truth_same, holds, fails}
use Rattle.mapset.specs.declared.Kind.{Kind}
use Rattle.mapset.specs.Areas.{Present}
use Rattle.areas.specs.ValidDecided.{blank?}

-- ---- from v to v is v
same_between : (v x : ℤ) → x ≡ v → Between v v x
same_between v x e = rw e (record { from = le_parts v v (omega arith); to = le_parts v v (omega arith) })

between_same : (v x : ℤ) → Between v v x → x ≡ v
between_same v x b = eq_parts x v (omega (arith, parts_le v x b.from, parts_le x v b.to))

module _ (v : ℤ) where
  all_between_same : (l : List ℤ) → All (Between v v) l → All (λ x. x ≡ v) l
  all_between_same [] a = tt
  all_between_same (x ∷ l) a = (between_same v x a.0, all_between_same l a.1)

  all_same_between : (l : List ℤ) → All (λ x. x ≡ v) l → All (Between v v) l
  all_same_between [] a = tt
  all_same_between (x ∷ l) a = (same_between v x a.0, all_same_between l a.1)

  pub sames_between : (l : List ℤ) → truth (all_dec (between? v v) l) ≡ truth (all_dec (λ x. int? x v) l)
  sames_between l = truth_same (all_dec (between? v v) l) (all_dec (λ x. int? x v) l) (all_between_same l) (all_same_between l)

-- ---- w elements, or what is left
module _ {A : Type 0} where
  take_over : (w : ℕ) (l : List A) → length l ≤ w → take w l ≡ l
  take_over zero [] h = refl
  take_over zero (x ∷ l) h = absurd (omega arith)
  take_over (suc w) [] h = refl
  take_over (suc w) (x ∷ l) h = ap (λ r. x ∷ r) (take_over w l (omega arith))

  by_min : (w : ℕ) (l : List A) → (take (min w (length l)) l ≡ take w l) × (drop (min w (length l)) l ≡ drop w l)
  by_min w l = go (dec_lt w (length l))
    where
      go : Dec (w < length l) → (take (min w (length l)) l ≡ take w l) × (drop (min w (length l)) l ≡ drop w l)
      go (yes h) = let e : min w (length l) ≡ w = omega arith in rw e (refl, refl)
      go (no n) =
          let e : min w (length l) ≡ length l = omega arith in
          let g : length l ≤ w = omega arith in
          let z : length l ≤ length l = omega arith in
          rw e (
            take_over (length l) l z ∙ sym (take_over w l g),
            drop_of_length-le l z ∙ sym (drop_of_length-le l g),
          )

-- ---- the marks from an index on, against what is left of the area
module _ (k : Kind) (w : ℕ) (v : ℤ) (ms : List ℕ) (i : ℕ) (l : List ℤ) where
  abbrev here : ℕ
  here = min w (length l)

  -- the map of the mark i is there or v everywhere
  abbrev Here : Type 0
  Here = Present k (get_or ms i 0) ⊎ All (λ x. x ≡ v) (take here l)

  pub blank_next : i < length ms → Here → truth (blank? k w v (drop i ms) l) ≡ truth (blank? k w v (drop (i + 1) ms) (drop here l))
  blank_next h p =
      rw (add-one, drop-cons ms i 0 h, (by_min w l).1)
      (truth_same (blank? k w v (get_or ms i 0 ∷ drop (suc i) ms) l) (blank? k w v (drop (suc i) ms) (drop w l)) (λ a. a.1) (λ a. (rw (by_min w l).0 at p, a)))

  pub blank_stop : i < length ms → ¬ Here → truth (blank? k w v (drop i ms) l) ≡ false
  blank_stop h n = rw (drop-cons ms i 0 h) (sym (fails (blank? k w v (get_or ms i 0 ∷ drop (suc i) ms) l) (λ a. n (rw (by_min w l).0 a.0))))

  pub blank_end : length ms ≤ i → truth (blank? k w v (drop i ms) l) ≡ true
  blank_end h = rw (drop_of_length-le ms h) (sym (holds (blank? k w v [] l) tt))
