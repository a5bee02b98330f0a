use Rattle.std.specs.Prelude.{Some}
-- The fast way to store a row that has no minus: by pairs of digits.
use mathlib.Core.Path.{◌≡◌, sym, ap, ◌∙◌}
use mathlib.Core.Bool.{Bool, true, false, ◌&&◌}
use mathlib.Core.Logic.{◌⊎◌, inl, inr, ⊎_elim}
use mathlib.Core.List.{List, [], ◌∷◌}
use Prim.Native.Nat.{ℕ, zero, suc, ◌+◌, ◌-◌, ◌*◌, ◌≤◌, ◌<◌}
use native.Mathlib.Omega.{arith}
use native.Mathlib.Decide.{ℕ_discrete, dec_le}
use lib.Dec.{eqb}
use lib.ListN.{length, get_or, take, drop, length-take, length-drop}
use lib.Seq.{length-take-le}
use borrow.Author.Tests.{eqb-true, ne_eqb}
use Rattle.kit.specs.Range.{Within}
use Rattle.kit.proofs.TruthLaws.{clash, and_true, or_true}
use Rattle.forms.specs.Form.{I, Digit, numeral, signed}
use Rattle.forms.specs.Read.{read_field, is_number}
use Rattle.forms.specs.Bytes.{is_digit, may_precede, has_minus}
use Rattle.fields.proofs.Judged.{well, true_digit, int_judged, int_number, int_below}
use Rattle.layout.specs.Text.{pad}
use Rattle.reading.specs.Fields.{cells}
use Rattle.read_lines.specs.Quick.{Ending}
use Rattle.read_lines.proofs.QuickLines.{known_row}
use Rattle.read_values.specs.Values.{value_field, Passed, Okay}
use Rattle.read_values.specs.Bare.{bare, Bares, Plain, BareRow, Paired}
use Rattle.read_values.proofs.QuickRows.{part_at, five_of, take_in}
use Rattle.read_values.proofs.ValueLaws.{field_whole, okay_at}

-- ---- a byte

bare_is : (b : ℕ) → bare b ≡ true → (b ≡ 32) ⊎ Digit b
bare_is b e = ⊎_elim (λ p. inl (eqb-true b 32 p)) (λ p. inr (true_digit b p)) (or_true (eqb b 32) (is_digit b) e)

bare_shown : (b : ℕ) → bare b ≡ true → Within 32 126 b
bare_shown b e = ⊎_elim (λ p. (omega arith, omega arith)) (λ d. (omega (arith, d.0), omega (arith, d.1))) (bare_is b e)

bare_low : (b : ℕ) → bare b ≡ true → b ≤ 57
bare_low b e = ⊎_elim (λ p. omega arith) (λ d. d.1) (bare_is b e)

bare_plus : (b : ℕ) → bare b ≡ true → eqb b 45 ≡ false
bare_plus b e = ne_eqb b 45 (λ q. ⊎_elim (λ p. omega arith) (λ d. omega (arith, d.0)) (bare_is b e))

-- ---- 16 bytes at a time

abbrev pub Bare : List ℕ → ℕ → Type 0
Bare l n = (i : ℕ) → i < n → bare (get_or l i 0) ≡ true

abbrev pub SoBare : Bool → List ℕ → ℕ → Type 0
SoBare true l n = Bare l n
SoBare false l n = Unit {0}

pub bare_on : (l : List ℕ) (a s w : ℕ) → s ≤ a → w ≡ 16 → Bare l a → (ok : Bool) → Bares ok (take w (drop s l)) 16 → ok ≡ true → Bare l (s + 16)
bare_on l a s w from long b false st e = clash (cc)
bare_on l a s w from long b true st e = λ j h. by j h (dec_le s j)
  where
    by : (j : ℕ) → j < s + 16 → Dec (s ≤ j) → bare (get_or l j 0) ≡ true
    by j h (yes q) =
        let e : s + (j - s) ≡ j = omega arith in
        let x : bare (get_or l (s + (j - s)) 0) ≡ true = rw (part_at l s w (j - s) (omega arith)) at (st.1 (j - s) (omega arith)) in
        rw e at x
    by j h (no q) = b j (omega arith)

-- ---- the row

ending_low : (t : List ℕ) (w z : ℕ) → Ending t w z → get_or t w 0 ≤ 57
ending_low t w zero e = absurd e
ending_low t w (suc zero) e = let x : get_or t w 0 ≡ 10 = e in omega arith
ending_low t w (suc (suc zero)) e = let x : get_or t w 0 ≡ 13 = e.1.0 in omega arith
ending_low t w (suc (suc (suc z))) e = absurd e

pub bare_row_of : (t : List ℕ) (m z i : ℕ) → 0 < m → m ≤ 16 → m * 5 < length t → Ending t (m * 5) z → i ≡ m * 5 - 1 → ¬ (get_or t i 0 ≡ 32)
    → (ok : Bool) → Bares ok t (m * 5) → ok ≡ true → BareRow t m (m * 5 + z)
bare_row_of t m z i some most long e is n false b o = clash (cc)
bare_row_of t m z i some most long e is n true b o =
    record {
      rows = known_row t (m * 5) z long e (omega arith) (λ j q. bare_shown (get_or t j 0) (b.1 j q)) i (omega arith) n;
      plain = record { long = b.0; within = long; bares = b.1; lows = λ j q. low j q (ℕ_discrete j (m * 5)) };
    }
  where
    low : (j : ℕ) → j ≤ m * 5 → Dec (j ≡ m * 5) → get_or t j 0 ≤ 57
    low j q (yes p) = rw p (ending_low t (m * 5) z e)
    low j q (no k) = bare_low (get_or t j 0) (b.1 j (omega arith))

-- ---- pairs

-- ---- a value

no_minus : (a b c d e : ℕ) → eqb a 45 ≡ false → eqb b 45 ≡ false → eqb c 45 ≡ false → eqb d 45 ≡ false → eqb e 45 ≡ false → has_minus (a ∷ b ∷ c ∷ d ∷ e ∷ []) ≡ false
no_minus a b c d e p q r s t = rw (p, q, r, s, t)

by_pairs : (a b c d e x y : ℕ) → x ≡ (a - 48) * 10 + (b - 48) → y ≡ (c - 48) * 10 + (d - 48) → numeral 0 (a ∷ b ∷ c ∷ d ∷ e ∷ []) ≡ x * 1000 + y * 10 + (e - 48)
by_pairs a b c d e x y p q = omega arith

well_last : (a b c d e : ℕ) → well (a ∷ b ∷ c ∷ d ∷ e ∷ []) ≡ true → is_digit e ≡ true
well_last a b c d e w =
    let w1 = (and_true (may_precede a b) (may_precede b c && (may_precede c d && (may_precede d e && is_digit e))) w).1 in
    let w2 = (and_true (may_precede b c) (may_precede c d && (may_precede d e && is_digit e)) w1).1 in
    let w3 = (and_true (may_precede c d) (may_precede d e && is_digit e) w2).1 in
    (and_true (may_precede d e) (is_digit e) w3).1

-- the k-th value of a row, by the pairs of its digits
module _ (t p : List ℕ) (m k : ℕ) (h : k < m) (pl : Plain t m) (pairs : Paired t p (m * 5)) (num : is_number (value_field (take (m * 5) t) k) ≡ true) where
  five : take 5 (drop (k * 5) t) ≡ get_or t (k * 5) 0 ∷ get_or t (suc (k * 5)) 0 ∷ get_or t (suc (suc (k * 5))) 0 ∷ get_or t (suc (suc (suc (k * 5)))) 0 ∷ get_or t (suc (suc (suc (suc (k * 5))))) 0 ∷ []
  five = let w = pl.within in five_of t (k * 5) (omega arith)

  same : read_field I (take 5 (drop (k * 5) t)) ≡ value_field (take (m * 5) t) k
  same =
      let w = pl.within in
      let l : length (take (m * 5) t) ≡ m * 5 = length-take-le (m * 5) t (omega arith) in
      let n : k * 5 + 5 - k * 5 ≡ 5 = omega arith in
      let q : read_field I (take 5 (drop (k * 5) (take (m * 5) t))) ≡ value_field (take (m * 5) t) k = rw n at (field_whole (take (m * 5) t) k (omega arith)) in
      ap (read_field I) (sym (take_in 5 (k * 5) (m * 5) t (omega arith))) ∙ q

  is_num : is_number (read_field I (take 5 (drop (k * 5) t))) ≡ true
  is_num = ap is_number same ∙ num

  minus : has_minus (take 5 (drop (k * 5) t)) ≡ false
  minus =
      let b = pl.bares in
      rw five
      (no_minus (get_or t (k * 5) 0) (get_or t (suc (k * 5)) 0) (get_or t (suc (suc (k * 5))) 0) (get_or t (suc (suc (suc (k * 5)))) 0) (get_or t (suc (suc (suc (suc (k * 5))))) 0)
      (bare_plus (get_or t (k * 5) 0) (b (k * 5) (omega arith))) (bare_plus (get_or t (suc (k * 5)) 0) (b (suc (k * 5)) (omega arith))) (bare_plus (get_or t (suc (suc (k * 5))) 0) (b (suc (suc (k * 5))) (omega arith))) (bare_plus (get_or t (suc (suc (suc (k * 5)))) 0) (b (suc (suc (suc (k * 5)))) (omega arith))) (bare_plus (get_or t (suc (suc (suc (suc (k * 5))))) 0) (b (suc (suc (suc (suc (k * 5))))) (omega arith))))

  number : numeral 0 (take 5 (drop (k * 5) t)) ≡ get_or p (k * 5) 0 * 1000 + get_or p (k * 5 + 2) 0 * 10 + (get_or t (k * 5 + 4) 0 - 48)
  number =
      let e2 : k * 5 + 2 ≡ suc (suc (k * 5)) = omega arith in
      let e4 : k * 5 + 4 ≡ suc (suc (suc (suc (k * 5)))) = omega arith in
      rw (e2, e4, five)
      (by_pairs (get_or t (k * 5) 0) (get_or t (suc (k * 5)) 0) (get_or t (suc (suc (k * 5))) 0) (get_or t (suc (suc (suc (k * 5)))) 0) (get_or t (suc (suc (suc (suc (k * 5))))) 0)
      (get_or p (k * 5) 0) (get_or p (suc (suc (k * 5))) 0) (pairs.pair (k * 5) (omega arith)) (pairs.pair (suc (suc (k * 5))) (omega arith)))

  pub bare_value : value_field (take (m * 5) t) k ≡ Some (signed false (get_or p (k * 5) 0 * 1000 + get_or p (k * 5 + 2) 0 * 10 + (get_or t (k * 5 + 4) 0 - 48)))
  bare_value = sym same ∙ sym (int_number (take 5 (drop (k * 5) t)) is_num) ∙ (λ i. Some (signed (minus i) (number i)))

  pub bare_below : get_or p (k * 5) 0 * 1000 + get_or p (k * 5 + 2) 0 * 10 + (get_or t (k * 5 + 4) 0 - 48) < 1000000000
  bare_below = let w = pl.within in rw (← number) (int_below (take 5 (drop (k * 5) t)) is_num (simp (length-take, length-drop) (omega arith)))

  pub bare_last : 48 ≤ get_or t (k * 5 + 4) 0
  bare_last =
      let e4 : k * 5 + 4 ≡ suc (suc (suc (suc (k * 5)))) = omega arith in
      let w : well (take 5 (drop (k * 5) t)) ≡ true = int_judged (take 5 (drop (k * 5) t)) ∙ is_num in
      rw e4
      (true_digit (get_or t (suc (suc (suc (suc (k * 5))))) 0)
      (well_last (get_or t (k * 5) 0) (get_or t (suc (k * 5)) 0) (get_or t (suc (suc (k * 5))) 0) (get_or t (suc (suc (suc (k * 5)))) 0) (get_or t (suc (suc (suc (suc (k * 5))))) 0) (rw five at w))).0

-- what is judged is a number
pub row_fits : (t : List ℕ) (m : ℕ) → m ≤ 16 → length (take (m * 5) t) ≤ 80
row_fits t m h = simp length-take (omega arith)

pub bare_num : (t : List ℕ) (m k : ℕ) → m ≤ 16 → k < m → Passed (take (m * 5) t) m k → Okay (cells 1 m (pad (take (m * 5) t))) → is_number (value_field (take (m * 5) t) k) ≡ true
bare_num t m k most h p fine = okay_at (take (m * 5) t) m k (row_fits t m most) most h p fine
