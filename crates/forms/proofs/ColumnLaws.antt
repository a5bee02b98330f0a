use Rattle.std.specs.Prelude.{Option, Some, None}
-- Columns of a line that may stop early, and of one that is padded; and what the first byte says that is no blank.
use mathlib.Core.Path.{◌≡◌, refl, sym, ap, ap₂, ◌∙◌}
use mathlib.Core.Bool.{Bool, true, false, cond}
use mathlib.Core.List.{List, [], ◌∷◌, ◌++◌}
use Prim.Native.Nat.{ℕ, zero, suc, ◌+◌, ◌-◌, ◌≤◌, ◌<◌}
use native.Mathlib.Omega.{arith}
use lib.ListN.{length, get_or, take, drop, replicate, length-append, length-drop, length-replicate, get_or-replicate}
use lib.Seq.{drop-cons, take-suc, get_or-drop, drop-append-le, take-append-le}
use lib.Dec.{eqb}
use borrow.Author.Tests.{eq-eqb, eqb-true, eqb-false}
use Rattle.kit.specs.Answer.{All}
use Rattle.kit.proofs.TruthLaws.{clash}
use Rattle.forms.specs.Columns.{columns, Blank, further, first_not_blank}

-- ---- blanks enough, however many

blank_columns : (p a n : ℕ) → a + n ≤ p → take n (drop {A = ℕ} a (replicate p 32)) ≡ replicate n 32
blank_columns p zero zero h = refl
blank_columns zero zero (suc n) h = absurd (omega arith)
blank_columns (suc p) zero (suc n) h = ap (◌∷◌ 32) (blank_columns p zero n (omega arith))
blank_columns zero (suc a) n h = absurd (omega arith)
blank_columns (suc p) (suc a) n h = blank_columns p a n (omega arith)

padded : (line : List ℕ) (a n p q : ℕ) → a + n ≤ length line + p → a + n ≤ length line + q
    → take n (drop a (line ++ replicate p 32)) ≡ take n (drop a (line ++ replicate q 32))
padded [] a n p q h k = blank_columns p a n (omega arith) ∙ sym (blank_columns q a n (omega arith))
padded (b ∷ bs) zero zero p q h k = refl
padded (b ∷ bs) zero (suc n) p q h k = ap (◌∷◌ b) (padded bs zero n p q (omega arith) (omega arith))
padded (b ∷ bs) (suc a) n p q h k = padded bs a n p q (omega arith) (omega arith)

module _ (line : List ℕ) (a n : ℕ) where
  -- the line's 80 columns, written out
  pub columns_padded : a + n ≤ 80 → length line ≤ 80 → columns line a n ≡ take n (drop a (line ++ replicate (80 - length line) 32))
  unfolding columns
  columns_padded h k = padded line a n (a + n) (80 - length line) (omega arith) (omega arith)

  -- no column is missing
  pub columns_whole : a + n ≤ length line → columns line a n ≡ take n (drop a line)
  unfolding columns
  columns_whole h =
      let d : a ≤ length line = omega arith in
      let t : n ≤ length (drop a line) = simp length-drop (omega arith) in
      rw (drop-append-le a line (replicate (a + n) 32) d) (take-append-le n (drop a line) (replicate (a + n) 32) t)

column : (line : List ℕ) (i p : ℕ) → i < length line + p → get_or (line ++ replicate p 32) i 0 ≡ get_or line i 32
column [] i p h = get_or-replicate p i 32 0 (omega arith)
column (b ∷ bs) zero p h = refl
column (b ∷ bs) (suc i) p h = column bs i p (omega arith)

module _ (line : List ℕ) (a n : ℕ) where
  long : a + n < length (line ++ replicate (a + suc n) 32)
  long = rw (length-append, length-replicate) (omega arith)

  pub columns_first : columns line a (suc n) ≡ get_or line a 32 ∷ columns line (suc a) n
  unfolding columns
  columns_first =
      let h = long in
      let l = line ++ replicate (a + suc n) 32 in
      let k : a < length l = omega arith in
      ap (take (suc n)) (drop-cons l a 0 k) ∙ ap₂ ◌∷◌ (column line a (a + suc n) (omega arith)) (padded line (suc a) n (a + suc n) (suc a + n) (omega arith) (omega arith))

  pub columns_last : columns line a (suc n) ≡ columns line a n ++ (get_or line (a + n) 32 ∷ [])
  unfolding columns
  columns_last =
      let h = long in
      let l = line ++ replicate (a + suc n) 32 in
      let k : n < length (drop a l) = simp length-drop (omega arith) in
      take-suc (drop a l) n 0 k ∙ ap₂ (λ (x : List ℕ) (b : ℕ). x ++ (b ∷ [])) (padded line a n (a + suc n) (a + n) (omega arith) (omega arith)) (get_or-drop a l n 0 ∙ column line (a + n) (a + suc n) (omega arith))

pub one_column : (line : List ℕ) (a : ℕ) → columns line a 1 ≡ get_or line a 32 ∷ []
one_column line a = columns_first line a 0 ∙ (unfold columns in refl)

-- ---- the first byte that is no blank

pub blank_none : (l : List ℕ) → All Blank l → first_not_blank l ≡ None
unfolding first_not_blank
blank_none [] h = refl
blank_none (b ∷ bs) h = rw (eq-eqb b 32 h.0, blank_none bs h.1)

further_none : (n : ℕ) (r : Option ℕ) → further n r ≡ None → r ≡ None
further_none n (Some i) e = clash (cc)
further_none n None e = refl

none_blank : (l : List ℕ) → first_not_blank l ≡ None → All Blank l
unfolding first_not_blank
none_blank [] e = tt
none_blank (b ∷ bs) e = go (eqb b 32) refl e (none_blank bs)
  where
    go : (t : Bool) → eqb b 32 ≡ t → cond t (further 1 (first_not_blank bs)) (Some 0) ≡ None → (first_not_blank bs ≡ None → All Blank bs) → All Blank (b ∷ bs)
    go true p r ih = (eqb-true b 32 p, ih (further_none 1 (first_not_blank bs) r))
    go false p r ih = clash (cc)

-- place i is the first
pub record First (l : List ℕ) (i : ℕ) : Type 0 where
  pub inside : i < length l
  pub before : All Blank (take i l)
  pub here : Blank (get_or l i 0) → ⊥

further_at : (r : Option ℕ) (i : ℕ) → further 1 r ≡ Some i → (j : ℕ) × ((r ≡ Some j) × (i ≡ suc j))
further_at (Some j) i e = let h : 1 + j ≡ i = cc in (j, (refl, omega arith))
further_at None i e = clash (cc)

first_at : (l : List ℕ) (i : ℕ) → first_not_blank l ≡ Some i → First l i
unfolding first_not_blank
first_at [] i e = clash (cc)
first_at (b ∷ bs) i e = go (eqb b 32) refl e (first_at bs)
  where
    go : (t : Bool) → eqb b 32 ≡ t → cond t (further 1 (first_not_blank bs)) (Some 0) ≡ Some i → ((j : ℕ) → first_not_blank bs ≡ Some j → First bs j) → First (b ∷ bs) i
    go true p r ih =
        let k = further_at (first_not_blank bs) i r in
        let f = ih k.0 k.1.0 in
        let h = f.inside in
        rw k.1.1 (record { inside = omega arith; before = (eqb-true b 32 p, f.before); here = f.here })
    go false p r ih =
        let e : i ≡ 0 = cc in
        rw e (record { inside = omega arith; before = tt; here = eqb-false b 32 p })
