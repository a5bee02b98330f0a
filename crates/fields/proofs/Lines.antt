use Rattle.std.specs.Prelude.{Option, Some, None}
-- A field of a line that stops early: a number's last column holds a digit, so a missing column makes the field bad.
use mathlib.Core.Path.{◌≡◌, refl, sym, ap, ◌∙◌}
use mathlib.Core.List.{List, [], ◌∷◌, ◌++◌, append_assoc}
use Prim.Native.Nat.{ℕ, zero, suc, ◌+◌, ◌-◌, ◌≤◌, ◌<◌}
use native.Mathlib.Numerals.{add-one}
use native.Mathlib.Omega.{arith}
use lib.ListN.{length, get_or, take, drop, replicate, set, get_or-eq_default}
use lib.Seq.{take-suc-set}
use lib.IntN.{ℤ}
use borrow.Author.Tests.{eq-eqb, ne_eqb}
use Rattle.kit.specs.Answer.{All}
use Rattle.kit.proofs.ListLaws.{all_behind}
use Rattle.forms.specs.Form.{Form, fewest, decimal, Digit, sign, pointed, Spells}
use Rattle.forms.specs.Read.{read_field}
use Rattle.forms.specs.Columns.{columns, further, first_not_blank}
use Rattle.forms.proofs.FieldLaws.{made_read}
use Rattle.forms.proofs.ColumnLaws.{columns_whole, columns_first, columns_last}

-- ---- the last byte

abbrev last : ℕ → List ℕ → ℕ
last d [] = d
last d (b ∷ bs) = last b bs

last_append : (d : ℕ) (xs : List ℕ) (y : ℕ) (ys : List ℕ) → last d (xs ++ y ∷ ys) ≡ last y ys
last_append d [] y ys = refl
last_append d (x ∷ xs) y ys = last_append x xs y ys

last_digit : (d : ℕ) (ds : List ℕ) → All Digit (d ∷ ds) → Digit (last d ds)
last_digit d [] h = h.0
last_digit d (e ∷ ds) h = last_digit e ds h.1

ends_digit : (whole part : List ℕ) → All Digit (whole ++ part) → 0 < length whole + length part
    → (x : ℕ) × (xs : List ℕ) × (whole ++ pointed part ≡ x ∷ xs) × Digit (last x xs)
ends_digit [] [] h k = absurd (omega arith)
ends_digit [] (d ∷ ds) h k = (46, d ∷ ds, refl, last_digit d ds h)
ends_digit (w ∷ ws) [] h k = (w, ws ++ [], refl, last_digit w (ws ++ []) h)
ends_digit (w ∷ ws) (d ∷ ds) h k = (w, ws ++ 46 ∷ d ∷ ds, refl, rw last_append (last_digit d ds (all_behind Digit ws (d ∷ ds) h.1)))

spells_ends : {fm : Form} {w : ℕ} {z : ℤ} {f : List ℕ} → 0 < fm.least + fm.after → Spells fm w z f → Digit (last 0 f)
spells_ends h s =
    let k = s.enough in
    let p = s.places in
    let e = ends_digit s.whole s.part s.digits (omega arith) in
    rw (s.bytes, e.2, ← append_assoc (replicate s.blanks 32) (sign s.minus) (e.0 ∷ e.1), last_append) e.3

no_digit_last : (fm : Form) (f : List ℕ) → 0 < fm.least + fm.after → (Digit (last 0 f) → ⊥) → None ≡ read_field fm f
no_digit_last fm f h n = go (read_field fm f) refl
  where
    go : (r : Option ℤ) → read_field fm f ≡ r → None ≡ r
    go (Some z) e = absurd (n (spells_ends h (made_read f e)))
    go None e = refl

-- ---- the field of n columns after the first a

module _ (after : ℕ) (line : List ℕ) (a : ℕ) where
  pub short : (n : ℕ) → length line < a + n → None ≡ read_field (decimal after) (columns line a n)
  short n h = no_digit_last (decimal after) (columns line a n) (some after) (missing n h)
    where
      some : (after : ℕ) → 0 < fewest after + after
      some zero = omega arith
      some (suc n) = omega arith

      missing : (n : ℕ) → length line < a + n → Digit (last 0 (columns line a n)) → ⊥
      missing zero h d = let z : Digit (last 0 []) = (unfold columns in d) in omega arith
      missing (suc n) h d =
          let k : length line ≤ a + n = omega arith in
          let z : Digit 32 = rw (columns_last, last_append, get_or-eq_default line 32 k) at d in
          omega arith

  pub whole : (n : ℕ) → a + n ≤ length line → read_field (decimal after) (take (a + n - a) (drop a line)) ≡ read_field (decimal after) (columns line a n)
  whole n h =
      let e : a + n - a ≡ n = omega arith in
      ap (read_field (decimal after)) (ap (λ (k : ℕ). take k (drop a line)) e ∙ sym (columns_whole line a n h))

-- ---- byte by byte

-- the byte of a column that is there does not depend on what missing ones hold
pub there : (line : List ℕ) (i : ℕ) → i < length line → get_or line i 0 ≡ get_or line i 32
there [] i h = absurd (omega arith)
there (b ∷ bs) zero h = refl
there (b ∷ bs) (suc i) h = there bs i (omega arith)

further_further : (n : ℕ) (r : Option ℕ) → further n (further 1 r) ≡ further (n + 1) r
further_further n (Some i) = ap Some (omega arith)
further_further n None = refl

module _ (line : List ℕ) (i e : ℕ) where
  -- columns i + 1 to e
  abbrev rest : Option ℕ
  rest = first_not_blank (columns line i (e - i))

  module _ (h : i < e) (b : ℕ) (q : b ≡ get_or line i 32) where
    cons : columns line i (e - i) ≡ b ∷ columns line (i + 1) (e - (i + 1))
    cons =
        let n : e - i ≡ suc (e - (i + 1)) = omega arith in
        ap (columns line i) n ∙ columns_first line i (e - (i + 1)) ∙ (rw (q, add-one))

    pub blank_here : b ≡ 32 → further (i + 1) rest ≡ further (i + 1 + 1) (first_not_blank (columns line (i + 1) (e - (i + 1))))
    unfolding first_not_blank
    blank_here p = rw (cons, eq-eqb b 32 p) (further_further (i + 1) (first_not_blank (columns line (i + 1) (e - (i + 1)))))

    pub found_here : (b ≡ 32 → ⊥) → Some (i + 1) ≡ further (i + 1) rest
    unfolding first_not_blank
    found_here p = rw (cons, ne_eqb b 32 p) (ap Some (omega arith))

  pub none_left : e ≤ i → None ≡ further (i + 1) rest
  unfolding first_not_blank columns
  none_left h = let z : e - i ≡ 0 = omega arith in rw z

-- the columns are put one by one
pub put_next : (line out : List ℕ) (a i b : ℕ) → i < length out → take i out ≡ columns line a i → b ≡ get_or line (a + i) 32
    → take (i + 1) (set out i b) ≡ columns line a (i + 1)
put_next line out a i b h e q = rw (add-one, take-suc-set out i b h, e, columns_last, q)
