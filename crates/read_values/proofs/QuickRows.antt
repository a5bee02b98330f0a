-- The fast way over a row of values: byte by byte, with the byte behind it.
use mathlib.Core.Path.{◌≡◌, refl, sym, ap, ◌∙◌}
use mathlib.Core.Bool.{Bool, true, false, not, ◌&&◌, ◌||◌, cond}
use mathlib.Core.Logic.{⊎_elim}
use mathlib.Core.List.{List, [], ◌∷◌}
use Prim.Native.Nat.{ℕ, zero, suc, ◌+◌, ◌-◌, ◌*◌, ◌≤◌, ◌<◌}
use native.Mathlib.Omega.{arith}
use native.Mathlib.Decide.{dec_le}
use lib.Dec.{T, eqb}
use lib.ListN.{length, get_or, take, drop, length-drop}
use lib.Seq.{drop-cons, length-take-le, get_or-take, get_or-drop}
use borrow.Author.Tests.{eqb-true}
use Rattle.kit.specs.Range.{Within}
use Rattle.kit.proofs.TruthLaws.{tested_at, clash, and_true, or_true}
use Rattle.kit.proofs.ListLaws.{rest_of}
use Rattle.forms.specs.Form.{I}
use Rattle.forms.specs.Read.{read_field, is_number}
use Rattle.forms.specs.Bytes.{is_digit, may_precede}
use Rattle.fields.proofs.Judged.{well, int_judged, true_digit}
use Rattle.read_lines.specs.Quick.{Ending}
use Rattle.read_lines.proofs.QuickLines.{known_row}
use Rattle.read_values.specs.Quick.{fits_as, last_columns, Standing, Fitting, UsualRow}
use Rattle.read_values.specs.Values.{value_field, Passed}
use Rattle.std.specs.Prelude.{Ok}
use Rattle.read_values.proofs.ValueLaws.{field_whole, passed_none, passed_more, judged, rest_none}

-- ---- a byte

pub one_fits : (x d last : Bool) → ((x && not last) || (d && last)) ≡ cond last d x
one_fits true true true = refl
one_fits true true false = refl
one_fits true false true = refl
one_fits true false false = refl
one_fits false true true = refl
one_fits false true false = refl
one_fits false false true = refl
one_fits false false false = refl

-- the first i of the bytes that are tested fit, if the test says so
abbrev pub Stood : Bool → List ℕ → List ℕ → ℕ → ℕ → Type 0
Stood true b es a i = (j : ℕ) → j < i → fits_as (get_or b j 0) (get_or b (suc j) 0) (eqb (get_or es (a + j) 0) 49) ≡ true
Stood false b es a i = Unit {0}

-- ---- 16 bytes at a time

abbrev last? : ℕ → Bool
last? i = eqb (get_or last_columns i 0) 49

abbrev fits_at : List ℕ → ℕ → Bool
fits_at l i = fits_as (get_or l i 0) (get_or l (suc i) 0) (last? i)

-- the first i bytes of the line fit
abbrev pub Fit : List ℕ → ℕ → Type 0
Fit l i = (j : ℕ) → j < i → fits_at l j ≡ true

pub part_at : (l : List ℕ) (s w i : ℕ) → i < w → get_or (take w (drop s l)) i 0 ≡ get_or l (s + i) 0
part_at l s w i h = get_or-take w (drop s l) i 0 h ∙ get_or-drop s l i 0

module _ (l es : List ℕ) (same : es ≡ last_columns) (a s w : ℕ) (from : s ≤ a) (long : w ≡ 17) (fit : Fit l a) where
  -- 16 more, from where nothing is left out
  stand_true : Standing true (take w (drop s l)) es s → Fit l (s + 16)
  stand_true st j h = by (dec_le s j)
    where
      by : Dec (s ≤ j) → fits_at l j ≡ true
      by (yes q) =
          let i = j - s in
          let e : s + (j - s) ≡ j = omega arith in
          let e1 : s + suc (j - s) ≡ suc j = omega arith in
          let x : fits_as (get_or l (s + (j - s)) 0) (get_or l (s + suc (j - s)) 0) (eqb (get_or last_columns (s + (j - s)) 0) 49) ≡ true =
          rw (part_at l s w (j - s) (omega arith), part_at l s w (suc (j - s)) (omega arith), same) at (st (j - s) (omega arith)) in
          rw (e, e1) at x
      by (no q) = fit j (omega arith)

  pub stand_on : (ok : Bool) → Standing ok (take w (drop s l)) es s → ok ≡ true → Fit l (s + 16)
  stand_on true st e = stand_true st
  stand_on false st e = clash (cc)

-- ---- a field

is_false : (b : Bool) → T (not b) → b ≡ false
is_false true t = absurd t
is_false false t = refl

inside : (b n : ℕ) (x : Bool) → T (not x) → fits_as b n x ≡ true → may_precede b n ≡ true
inside b n true t e = absurd t
inside b n false t e = e

at_end : (b n : ℕ) (x : Bool) → T x → fits_as b n x ≡ true → is_digit b ≡ true
at_end b n true t e = e
at_end b n false t e = absurd t

all_five : (a b c d e : Bool) → a ≡ true → b ≡ true → c ≡ true → d ≡ true → e ≡ true → (a && (b && (c && (d && e)))) ≡ true
all_five true true true true true p q r s t = refl
all_five false b c d e p q r s t = clash (cc)
all_five true false c d e p q r s t = clash (cc)
all_five true true false d e p q r s t = clash (cc)
all_five true true true false e p q r s t = clash (cc)
all_five true true true true false p q r s t = clash (cc)

pub five_of : (l : List ℕ) (a : ℕ) → a + 5 ≤ length l
    → take 5 (drop a l) ≡ get_or l a 0 ∷ get_or l (suc a) 0 ∷ get_or l (suc (suc a)) 0 ∷ get_or l (suc (suc (suc a))) 0 ∷ get_or l (suc (suc (suc (suc a)))) 0 ∷ []
five_of l a h =
    let e0 : drop a l ≡ get_or l a 0 ∷ drop (suc a) l = drop-cons l a 0 (omega arith) in
    let e1 : drop (suc a) l ≡ get_or l (suc a) 0 ∷ drop (suc (suc a)) l = drop-cons l (suc a) 0 (omega arith) in
    let e2 : drop (suc (suc a)) l ≡ get_or l (suc (suc a)) 0 ∷ drop (suc (suc (suc a))) l = drop-cons l (suc (suc a)) 0 (omega arith) in
    let e3 : drop (suc (suc (suc a))) l ≡ get_or l (suc (suc (suc a))) 0 ∷ drop (suc (suc (suc (suc a)))) l = drop-cons l (suc (suc (suc a))) 0 (omega arith) in
    let e4 : drop (suc (suc (suc (suc a)))) l ≡ get_or l (suc (suc (suc (suc a)))) 0 ∷ drop (suc (suc (suc (suc (suc a))))) l = drop-cons l (suc (suc (suc (suc a)))) 0 (omega arith) in
    ap (take 5) e0 ∙ ap (λ r. get_or l a 0 ∷ take 4 r) e1 ∙ ap (λ r. get_or l a 0 ∷ get_or l (suc a) 0 ∷ take 3 r) e2
    ∙ ap (λ r. get_or l a 0 ∷ get_or l (suc a) 0 ∷ get_or l (suc (suc a)) 0 ∷ take 2 r) e3
    ∙ ap (λ r. get_or l a 0 ∷ get_or l (suc a) 0 ∷ get_or l (suc (suc a)) 0 ∷ get_or l (suc (suc (suc a))) 0 ∷ take 1 r) e4

module _ (l : List ℕ) (m : ℕ) (long : m * 5 < length l) (most : m ≤ 16) (fit : Fit l (m * 5)) where
  well_at : (k : ℕ) → k < m → well (take 5 (drop (k * 5) l)) ≡ true
  well_at k h =
      let a = k * 5 in
      let k16 : k < 16 = omega arith in
      rw (five_of l (k * 5) (omega arith))
      (all_five (may_precede (get_or l a 0) (get_or l (suc a) 0)) (may_precede (get_or l (suc a) 0) (get_or l (suc (suc a)) 0)) (may_precede (get_or l (suc (suc a)) 0) (get_or l (suc (suc (suc a))) 0)) (may_precede (get_or l (suc (suc (suc a))) 0) (get_or l (suc (suc (suc (suc a)))) 0)) (is_digit (get_or l (suc (suc (suc (suc a)))) 0))
      (inside (get_or l a 0) (get_or l (suc a) 0) (last? a) (tested_at (λ k. not (last? (k * 5))) 16 tt k k16) (fit a (omega arith)))
      (inside (get_or l (suc a) 0) (get_or l (suc (suc a)) 0) (last? (suc a)) (tested_at (λ k. not (last? (suc (k * 5)))) 16 tt k k16) (fit (suc a) (omega arith)))
      (inside (get_or l (suc (suc a)) 0) (get_or l (suc (suc (suc a))) 0) (last? (suc (suc a))) (tested_at (λ k. not (last? (suc (suc (k * 5))))) 16 tt k k16) (fit (suc (suc a)) (omega arith)))
      (inside (get_or l (suc (suc (suc a))) 0) (get_or l (suc (suc (suc (suc a)))) 0) (last? (suc (suc (suc a)))) (tested_at (λ k. not (last? (suc (suc (suc (k * 5)))))) 16 tt k k16) (fit (suc (suc (suc a))) (omega arith)))
      (at_end (get_or l (suc (suc (suc (suc a)))) 0) (get_or l (suc (suc (suc (suc (suc a))))) 0) (last? (suc (suc (suc (suc a))))) (tested_at (λ k. last? (suc (suc (suc (suc (k * 5)))))) 16 tt k k16) (fit (suc (suc (suc (suc a)))) (omega arith))))

  number_at : (k : ℕ) → k < m → true ≡ is_number (value_field l k)
  number_at k h =
      let n : k * 5 + 5 - k * 5 ≡ 5 = omega arith in
      let w : read_field I (take 5 (drop (k * 5) l)) ≡ value_field l k = rw n at (field_whole l k (omega arith)) in
      sym (well_at k h) ∙ int_judged (take 5 (drop (k * 5) l)) ∙ ap is_number w

-- ---- the row

pub take_in : (n a w : ℕ) (l : List ℕ) → a + n ≤ w → take n (drop a (take w l)) ≡ take n (drop a l)
take_in n zero w l h = take_first n w l (omega arith)
  where
    take_first : (n w : ℕ) (l : List ℕ) → n ≤ w → take n (take w l) ≡ take n l
    take_first zero w l h = refl
    take_first (suc n) zero l h = absurd (omega arith)
    take_first (suc n) (suc w) [] h = refl
    take_first (suc n) (suc w) (x ∷ l) h = ap (λ r. x ∷ r) (take_first n w l (omega arith))
take_in n (suc a) zero l h = absurd (omega arith)
take_in n (suc a) (suc w) [] h = refl
take_in n (suc a) (suc w) (x ∷ l) h = take_in n a w l (omega arith)

module _ (u : List ℕ) (w m : ℕ) (long : w ≤ length u) (fits : w ≤ 80) (most : m ≤ 16) (room : m * 5 ≤ w) (f : (k : ℕ) → k < m → true ≡ is_number (value_field u k)) where
  size : length (take w u) ≡ w
  size = length-take-le w u long

  same_field : (k : ℕ) → k < m → value_field u k ≡ value_field (take w u) k
  same_field k h =
      let s = size in
      let n : k * 5 + 5 - k * 5 ≡ 5 = omega arith in
      let a : read_field I (take 5 (drop (k * 5) u)) ≡ value_field u k = rw n at (field_whole u k (omega arith)) in
      let b : read_field I (take 5 (drop (k * 5) (take w u))) ≡ value_field (take w u) k = rw n at (field_whole (take w u) k (omega arith)) in
      sym a ∙ ap (read_field I) (sym (take_in 5 (k * 5) w u (omega arith))) ∙ b

  upto : (k : ℕ) → k ≤ m → Passed (take w u) m k
  upto zero h = passed_none _ _
  upto (suc k) h =
      let s = size in
      let e : k + 1 ≡ suc k = omega arith in
      rw e at (passed_more (take w u) m k (omega arith) most (omega arith) (upto k (omega arith)) (f k (omega arith) ∙ ap is_number (same_field k (omega arith))))

pub fit_row : (t : List ℕ) (at w m : ℕ) → at + w < length t → w ≤ 80 → m ≤ 16 → m * 5 ≤ w → (ok : Bool) → Fitting ok (take (length t - at) (drop at t)) m → ok ≡ true
    → Passed (take (at + w - at) (drop at t)) m m
fit_row t at w m h fits most room false f e = clash (cc)
fit_row t at w m h fits most room true f e =
    let n : at + w - at ≡ w = omega arith in
    let d = length-drop at t in
    rw n (upto (drop at t) w m (omega arith) fits most room (number_at (drop at t) m (omega arith) most (rw (rest_of t at) at f)) m (omega arith))

-- ---- a row that ends right behind its values

digit_shown : (b : ℕ) → is_digit b ≡ true → Within 32 126 b
digit_shown b e = let d = true_digit b e in (omega (arith, d.0), omega (arith, d.1))

precede_shown : (b n : ℕ) → may_precede b n ≡ true → Within 32 126 b
precede_shown b n e = ⊎_elim blank other (or_true (eqb b 32) ((eqb b 45 || is_digit b) && is_digit n) e)
  where
    blank : eqb b 32 ≡ true → Within 32 126 b
    blank p = let q = eqb-true b 32 p in (omega arith, omega arith)

    minus : eqb b 45 ≡ true → Within 32 126 b
    minus p = let q = eqb-true b 45 p in (omega arith, omega arith)

    other : ((eqb b 45 || is_digit b) && is_digit n) ≡ true → Within 32 126 b
    other p = ⊎_elim minus (digit_shown b) (or_true (eqb b 45) (is_digit b) (and_true (eqb b 45 || is_digit b) (is_digit n) p).0)

fits_shown : (b n : ℕ) (x : Bool) → fits_as b n x ≡ true → Within 32 126 b
fits_shown b n true e = digit_shown b e
fits_shown b n false e = precede_shown b n e

pub usual : (t : List ℕ) (m z : ℕ) → 0 < m → m ≤ 16 → m * 5 < length t → Ending t (m * 5) z → (ok : Bool) → Fitting ok t m → ok ≡ true → UsualRow t m (m * 5 + z)
usual t m z some most long e false f o = clash (cc)
usual t m z some most long e true f o =
    let d = true_digit (get_or t 4 0) (f 4 (omega arith)) in
    let l : length (take (m * 5) t) ≡ m * 5 = length-take-le (m * 5) t (omega arith) in
    record {
      rows = known_row t (m * 5) z long e (omega arith) (λ i q. fits_shown (get_or t i 0) (get_or t (suc i) 0) (last? i) (f i q)) 4 (omega arith) (λ x. omega (arith, d.0));
      fine = judged (take (m * 5) t) m (upto t (m * 5) m (omega arith) (omega arith) most (omega arith) (number_at t m long most f) m (omega arith)) (Ok tt) (rest_none (take (m * 5) t) m (omega arith));
    }
