-- The rows of a block: EXPONENT or none, and the values 16 by 16.
-- ---- EXPONENT
use mathlib.Core.Path.{◌≡◌, refl, sym, ap, ◌∙◌}
use mathlib.Core.Bool.{true, false}
use mathlib.Core.List.{List, [], ◌∷◌}
use Prim.Native.Nat.{ℕ, zero, suc, ◌≤◌, ◌<◌}
use native.Mathlib.Omega.{arith}
use native.Mathlib.Decide.{dec_le}
use lib.IntN.{ℤ}
use lib.ListN.{length, take, drop, length-drop}
use Rattle.kit.specs.Answer.{pick}
use Rattle.kit.proofs.AnswerLaws.{pick_yes, pick_no}
use Rattle.kit.specs.Integer.{int?}
use Rattle.kit.specs.Truth.{truth}
use Rattle.kit.proofs.TruthLaws.{truth_true, truth_false}
use Rattle.layout.specs.Names.{names}
use Rattle.canonical.specs.Canon.{row_of, value_row, value_rows, exponent_rows}
use Rattle.write_row.specs.Rows.{row_at, whole}

pub exponent_none : (k e : ℤ) → truth (int? k e) ≡ true → exponent_rows k e ≡ []
exponent_none k e t = pick_yes (int? k e) [] _ (truth_true (int? k e) t)

pub exponent_one : (k e : ℤ) → truth (int? k e) ≡ false → exponent_rows k e ≡ row_at 19 whole (e, tt) ∷ []
unfolding row_at row_of names
exponent_one k e t = pick_no (int? k e) [] _ (truth_false (int? k e) t)

-- ---- values

-- the first argument of value-rows only has to be large enough
enough : (n m : ℕ) (zs : List ℤ) → length zs ≤ n → length zs ≤ m → value_rows n zs ≡ value_rows m zs
unfolding value_rows
enough zero zero zs h k = refl
enough zero (suc m) zs h k = sym (pick_yes (dec_le (length zs) 16) (value_row zs ∷ []) _ (omega arith))
enough (suc n) zero zs h k = pick_yes (dec_le (length zs) 16) (value_row zs ∷ []) _ (omega arith)
enough (suc n) (suc m) zs h k = by (dec_le (length zs) 16) (λ g. enough n m (drop 16 zs) (rw length-drop (omega arith)) (rw length-drop (omega arith)))
  where
    by : (d : Dec (length zs ≤ 16)) → (¬ (length zs ≤ 16) → value_rows n (drop 16 zs) ≡ value_rows m (drop 16 zs))
        → pick d (value_row zs ∷ []) (value_row (take 16 zs) ∷ value_rows n (drop 16 zs)) ≡ pick d (value_row zs ∷ []) (value_row (take 16 zs) ∷ value_rows m (drop 16 zs))
    by (yes p) f = pick_yes (yes p) (value_row zs ∷ []) _ p ∙ sym (pick_yes (yes p) (value_row zs ∷ []) _ p)
    by (no g) f = pick_no (no g) (value_row zs ∷ []) _ g ∙ ap (λ rs. value_row (take 16 zs) ∷ rs) (f g) ∙ sym (pick_no (no g) (value_row zs ∷ []) _ g)

pub values_last : (zs : List ℤ) → length zs ≤ 16 → value_rows (length zs) zs ≡ value_row zs ∷ []
values_last zs h = by (length zs) zs h
  where
    by : (n : ℕ) (zs : List ℤ) → length zs ≤ 16 → value_rows n zs ≡ value_row zs ∷ []
    by zero zs h = unfold value_rows in refl
    by (suc n) zs h = unfold value_rows in pick_yes (dec_le (length zs) 16) (value_row zs ∷ []) _ h

pub values_more : (zs : List ℤ) → 16 < length zs → value_rows (length zs) zs ≡ value_row (take 16 zs) ∷ value_rows (length (drop 16 zs)) (drop 16 zs)
values_more zs h = by (length zs) refl
  where
    by : (n : ℕ) → length zs ≡ n → value_rows n zs ≡ value_row (take 16 zs) ∷ value_rows (length (drop 16 zs)) (drop 16 zs)
    by zero e = absurd (omega arith)
    by (suc n) e =
        unfold value_rows in pick_no (dec_le (length zs) 16) (value_row zs ∷ []) (value_row (take 16 zs) ∷ value_rows n (drop 16 zs)) (λ k. omega arith)
        ∙ ap (λ rs. value_row (take 16 zs) ∷ rs) (enough n (length (drop 16 zs)) (drop 16 zs) (rw length-drop (omega arith)) (omega arith))
