use Rattle.std.specs.Prelude.{Option, Some, None}
-- A field whose bytes pass neighbour by neighbour is a number, and its digits make it.
use mathlib.Core.Path.{◌≡◌, refl, sym, ap, ◌∙◌}
use mathlib.Core.Bool.{Bool, true, false, ◌&&◌, ◌||◌}
use mathlib.Core.Logic.{⊎_elim}
use mathlib.Core.List.{List, [], ◌∷◌, ◌++◌, append_assoc, append-nil}
use Prim.Native.Nat.{ℕ, zero, suc, ◌+◌, ◌^◌, ◌≤◌, ◌<◌}
use native.Mathlib.Nat.{pow-le-pow_right}
use native.Mathlib.Omega.{arith}
use lib.ListN.{length, take, replicate, length-append}
use lib.Seq.{take_at}
use lib.IntN.{ℤ}
use lib.Dec.{leb, eqb}
use borrow.Author.Tests.{le-leb, leb-true, ne_eqb, eqb-true}
use Rattle.kit.specs.Answer.{All}
use Rattle.kit.proofs.ListLaws.{all_append, all_front, all_behind}
use Rattle.kit.proofs.TruthLaws.{and_true, or_true}
use Rattle.forms.specs.Form.{fewest, decimal, I, Digit, numeral, sign, signed, pointed, Spells}
use Rattle.forms.specs.Read.{read_field, is_number}
use Rattle.forms.proofs.FieldLaws.{read_made, made_read}
use Rattle.forms.proofs.ShowLaws.{numeral_append, numeral_below}
use Rattle.forms.specs.Bytes.{is_digit, may_precede, has_minus}

digit_true : (b : ℕ) → Digit b → is_digit b ≡ true
digit_true b h = rw (le-leb 48 b h.0, le-leb b 57 h.1)

pub true_digit : (b : ℕ) → is_digit b ≡ true → Digit b
true_digit b e = let a = and_true (leb 48 b) (leb b 57) e in (leb-true 48 b a.0, leb-true b 57 a.1)

-- each byte may precede the next, and the last is a digit
abbrev pub well : List ℕ → Bool
well [] = false
well (b ∷ []) = is_digit b
well (b ∷ c ∷ l) = may_precede b c && well (c ∷ l)

-- blanks, a minus or none, digits or none
pub record Whole (minus : Bool) (ds f : List ℕ) : Type 0 where
  pub blanks : ℕ
  pub digits : All Digit ds
  pub bytes : f ≡ replicate blanks 32 ++ (sign minus ++ ds)

-- ---- from the bytes to their shape

digit_next : (b c : ℕ) → Digit b → may_precede b c ≡ is_digit c
digit_next b c h = rw (ne_eqb b 32 (λ e. omega arith), ne_eqb b 45 (λ e. omega arith), digit_true b h)

-- after a digit stand digits only
pub well_digits : (b : ℕ) (l : List ℕ) → Digit b → well (b ∷ l) ≡ true → All Digit (b ∷ l)
well_digits b [] h e = (h, tt)
well_digits b (c ∷ l) h e =
    let a = and_true (may_precede b c) (well (c ∷ l)) e in
    (h, well_digits c l (true_digit c (sym (digit_next b c h) ∙ a.0)) a.1)

well_whole : (f : List ℕ) → well f ≡ true → (minus : Bool) × (ds : List ℕ) × (0 < length ds) × Whole minus ds f
well_whole [] e = let z : ◌≡◌ {A = ℕ} 0 1 = cc in absurd (omega arith)
well_whole (b ∷ []) e = (false, b ∷ [], omega arith, record { blanks = 0; digits = (true_digit b e, tt); bytes = refl })
well_whole (b ∷ c ∷ l) e =
    let a = and_true (may_precede b c) (well (c ∷ l)) e in
    ⊎_elim (blank (well_whole (c ∷ l) a.1)) (other a.1) (or_true (eqb b 32) ((eqb b 45 || is_digit b) && is_digit c) a.0)
  where
    blank : (minus : Bool) × (ds : List ℕ) × (0 < length ds) × Whole minus ds (c ∷ l) → eqb b 32 ≡ true → (minus : Bool) × (ds : List ℕ) × (0 < length ds) × Whole minus ds (b ∷ c ∷ l)
    blank w p =
        let r = w.3 in
        (w.0, w.1, w.2, rw (eqb-true b 32 p) (record { blanks = suc r.blanks; digits = r.digits; bytes = ap (◌∷◌ 32) r.bytes }))

    other : well (c ∷ l) ≡ true → ((eqb b 45 || is_digit b) && is_digit c) ≡ true → (minus : Bool) × (ds : List ℕ) × (0 < length ds) × Whole minus ds (b ∷ c ∷ l)
    other h p =
        let a = and_true (eqb b 45 || is_digit b) (is_digit c) p in
        let ds = well_digits c l (true_digit c a.1) h in
        ⊎_elim (λ q. (true, c ∷ l, omega arith, rw (eqb-true b 45 q) (record { blanks = 0; digits = ds; bytes = refl })))
        (λ q. (false, b ∷ c ∷ l, omega arith, record { blanks = 0; digits = (true_digit b q, ds); bytes = refl }))
        (or_true (eqb b 45) (is_digit b) a.0)

-- ---- from the shape to the bytes

pub digits_well : (b : ℕ) (l : List ℕ) → All Digit (b ∷ l) → well (b ∷ l) ≡ true
digits_well b [] h = digit_true b h.0
digits_well b (c ∷ l) h = rw (digit_next b c h.0, digit_true c h.1.0) (digits_well c l h.1)

sign_well : (minus : Bool) (ds : List ℕ) → All Digit ds → 0 < length ds → well (sign minus ++ ds) ≡ true
sign_well minus [] h k = absurd (omega arith)
sign_well true (d ∷ ds) h k = rw (digit_true d h.0) (digits_well d ds h)
sign_well false (d ∷ ds) h k = digits_well d ds h

well_blank : (l : List ℕ) → well (32 ∷ l) ≡ well l
well_blank [] = refl
well_blank (b ∷ l) = refl

well_blanks : (n : ℕ) (l : List ℕ) → well (replicate n 32 ++ l) ≡ well l
well_blanks zero l = refl
well_blanks (suc n) l = well_blank (replicate n 32 ++ l) ∙ well_blanks n l

digits_minus : (ds : List ℕ) → All Digit ds → has_minus ds ≡ false
digits_minus [] h = refl
digits_minus (d ∷ ds) h = let k = h.0 in rw (ne_eqb d 45 (λ e. omega arith)) (digits_minus ds h.1)

sign_minus : (minus : Bool) (ds : List ℕ) → All Digit ds → has_minus (sign minus ++ ds) ≡ minus
sign_minus true ds h = refl
sign_minus false ds h = digits_minus ds h

blanks_minus : (n : ℕ) (l : List ℕ) → has_minus (replicate n 32 ++ l) ≡ has_minus l
blanks_minus zero l = refl
blanks_minus (suc n) l = blanks_minus n l

sign_numeral : (minus : Bool) (ds : List ℕ) → numeral 0 (sign minus ++ ds) ≡ numeral 0 ds
sign_numeral true ds = refl
sign_numeral false ds = refl

blanks_numeral : (n : ℕ) (l : List ℕ) → numeral 0 (replicate n 32 ++ l) ≡ numeral 0 l
blanks_numeral zero l = refl
blanks_numeral (suc n) l = blanks_numeral n l

module _ {minus : Bool} {ds f : List ℕ} (w : Whole minus ds f) where
  whole_well : 0 < length ds → well f ≡ true
  whole_well h = rw (w.bytes, well_blanks) (sign_well minus ds w.digits h)

  whole_minus : has_minus f ≡ minus
  whole_minus = rw (w.bytes, blanks_minus) (sign_minus minus ds w.digits)

  whole_numeral : numeral 0 f ≡ numeral 0 ds
  whole_numeral = rw (w.bytes, blanks_numeral) (sign_numeral minus ds)

  pub whole_below : numeral 0 f < 10 ^ length f
  whole_below =
      let b = numeral_below 0 1 ds w.digits (omega arith) in
      let k : length ds ≤ length f = rw (w.bytes, length-append, length-append) (omega arith) in
      let power : 10 ^ length ds ≤ 10 ^ length f = pow-le-pow_right (omega arith) k in
      rw whole_numeral (omega arith)

-- ---- what may stand before a digit

-- the last of a list, and what stands before it
snoc_of : (l : List ℕ) → 0 < length l → (xs : List ℕ) × (x : ℕ) × (l ≡ xs ++ (x ∷ []))
snoc_of [] h = absurd (omega arith)
snoc_of (x ∷ []) h = ([], x, refl)
snoc_of (x ∷ y ∷ l) h = let s = snoc_of (y ∷ l) (omega arith) in (x ∷ s.0, s.1, ap (◌∷◌ x) s.2)

before_last : (xs ys : List ℕ) (x y : ℕ) → xs ++ (x ∷ []) ≡ ys ++ (y ∷ []) → xs ≡ ys
before_last xs ys x y e =
    let n : length xs + 1 ≡ length ys + 1 = sym (length-append xs (x ∷ [])) ∙ ap length e ∙ length-append ys (y ∷ []) in
    sym (take_at xs (x ∷ []) (length xs) refl) ∙ ap (take (length xs)) e ∙ take_at ys (y ∷ []) (length xs) (omega arith)

pub well_lead : (f : List ℕ) (d : ℕ) → well (f ++ (d ∷ [])) ≡ true → (minus : Bool) × (ds : List ℕ) × Whole minus ds f
well_lead f d e =
    let w = well_whole (f ++ (d ∷ [])) e in
    let s = snoc_of w.1 w.2 in
    let r = w.3 in
    let b : f ++ (d ∷ []) ≡ (replicate r.blanks 32 ++ (sign w.0 ++ s.0)) ++ (s.1 ∷ []) =
    r.bytes ∙ ap (λ (l : List ℕ). replicate r.blanks 32 ++ (sign w.0 ++ l)) s.2 ∙ simp append_assoc in (
      w.0,
      s.0,
      record { blanks = r.blanks; digits = all_front Digit s.0 (s.1 ∷ []) (rw s.2 at r.digits); bytes = before_last f _ d s.1 b },
    )

pub well_last : (f : List ℕ) (d : ℕ) → well (f ++ (d ∷ [])) ≡ true → Digit d
well_last [] d e = true_digit d e
well_last (b ∷ []) d e = true_digit d (and_true (may_precede b d) (is_digit d) e).1
well_last (b ∷ c ∷ l) d e = well_last (c ∷ l) d (and_true (may_precede b c) (well (c ∷ l ++ (d ∷ []))) e).1

pub lead_well : {minus : Bool} {ds f : List ℕ} {d : ℕ} → Whole minus ds f → Digit d → well (f ++ (d ∷ [])) ≡ true
lead_well {minus} {ds} {f} {d} w h =
    let k : length (ds ++ (d ∷ [])) ≡ length ds + 1 = length-append ds (d ∷ []) in
    let both : Whole minus (ds ++ (d ∷ [])) (f ++ (d ∷ [])) =
    record { blanks = w.blanks; digits = all_append Digit ds (d ∷ []) w.digits (h, tt); bytes = ap (λ (l : List ℕ). l ++ (d ∷ [])) w.bytes ∙ simp append_assoc } in
    whole_well both (omega arith)

-- ---- a number field: such a whole, and where the form has it the point and its digits

pub record Parts (after : ℕ) (z : ℤ) (f : List ℕ) : Type 0 where
  pub minus : Bool
  pub ds : List ℕ
  pub front : List ℕ
  pub part : List ℕ
  pub whole : Whole minus ds front
  pub enough : fewest after ≤ length ds
  pub digits : All Digit part
  pub places : length part ≡ after
  pub bytes : f ≡ front ++ pointed part
  pub number : z ≡ signed minus (numeral 0 (ds ++ part))

module _ {after : ℕ} {z : ℤ} {f : List ℕ} where
  parts_spells : Parts after z f → Spells (decimal after) (length f) z f
  parts_spells p =
      let w = p.whole in
      record {
        blanks = w.blanks;
        minus = p.minus;
        whole = p.ds;
        part = p.part;
        digits = all_append Digit p.ds p.part w.digits p.digits;
        enough = p.enough;
        places = p.places;
        bytes = p.bytes ∙ ap (λ (l : List ℕ). l ++ pointed p.part) w.bytes ∙ simp append_assoc;
        number = p.number;
        width = refl;
      }

  spells_parts : {n : ℕ} → Spells (decimal after) n z f → Parts after z f
  spells_parts s =
      record {
        minus = s.minus;
        ds = s.whole;
        front = replicate s.blanks 32 ++ (sign s.minus ++ s.whole);
        part = s.part;
        whole = record { blanks = s.blanks; digits = all_front Digit s.whole s.part s.digits; bytes = refl };
        enough = s.enough;
        digits = all_behind Digit s.whole s.part s.digits;
        places = s.places;
        bytes = s.bytes ∙ simp append_assoc;
        number = s.number;
      }

  -- the number from the bytes
  pub parts_number : (p : Parts after z f) → z ≡ signed (has_minus p.front) (numeral (numeral 0 p.front) p.part)
  parts_number p = rw (whole_minus p.whole, whole_numeral p.whole, ← numeral_append) p.number

  parts_read : Parts after z f → read_field (decimal after) f ≡ Some z
  parts_read p = read_made (parts_spells p)

  read_parts : read_field (decimal after) f ≡ Some z → Parts after z f
  read_parts e = spells_parts (made_read f e)

-- a test that passes exactly such fields
pub judged : (after : ℕ) (f : List ℕ) (t : Bool) → (t ≡ true → (z : ℤ) × Parts after z f) → ((z : ℤ) → Parts after z f → t ≡ true)
    → t ≡ is_number (read_field (decimal after) f)
judged after f true y n = sym (ap is_number (parts_read (y refl).1))
judged after f false y n = go (read_field (decimal after) f) refl
  where
    go : (r : Option ℤ) → read_field (decimal after) f ≡ r → false ≡ is_number r
    go (Some z) e = n z (read_parts e)
    go None e = refl

nil_of : (l : List ℕ) → length l ≡ 0 → l ≡ []
nil_of [] e = refl
nil_of (b ∷ l) e = absurd (omega arith)

-- In
pub int_judged : (f : List ℕ) → well f ≡ is_number (read_field I f)
int_judged f = judged 0 f (well f) there back
  where
    there : well f ≡ true → (z : ℤ) × Parts 0 z f
    there e =
        let w = well_whole f e in
        (_, record { minus = w.0; ds = w.1; front = f; part = []; whole = w.3; enough = w.2; digits = tt; places = refl; bytes = sym (append-nil f); number = refl })

    back : (z : ℤ) → Parts 0 z f → well f ≡ true
    back z p = rw (p.bytes, nil_of p.part p.places, append-nil) (whole_well p.whole p.enough)

-- ---- what the test says of the field

pub bad_of : (r : Option ℤ) → is_number r ≡ false → None ≡ r
bad_of (Some z) e = cc
bad_of None e = refl

number_of : (r : Option ℤ) → is_number r ≡ true → (z : ℤ) × (r ≡ Some z)
number_of (Some z) e = (z, refl)
number_of None e = let x : ◌≡◌ {A = ℕ} 0 1 = cc in absurd (omega arith)

pub judged_parts : (after : ℕ) (f : List ℕ) → is_number (read_field (decimal after) f) ≡ true → (z : ℤ) × (read_field (decimal after) f ≡ Some z) × Parts after z f
judged_parts after f e = let n = number_of (read_field (decimal after) f) e in (n.0, n.1, read_parts n.1)

module _ (f : List ℕ) (e : is_number (read_field I f) ≡ true) where
  int_parts : (p : Parts 0 (judged_parts 0 f e).0 f) → (p.front ≡ f) × (p.part ≡ [])
  int_parts p =
      let n = nil_of p.part p.places in
      (sym (rw (n, append-nil) at p.bytes), n)

  pub int_number : Some (signed (has_minus f) (numeral 0 f)) ≡ read_field I f
  int_number =
      let j = judged_parts 0 f e in
      let p = j.2 in
      let i = int_parts p in
      sym (j.1 ∙ ap Some (parts_number p ∙ rw (i.1, i.0)))

  pub int_below : length f ≤ 9 → numeral 0 f < 1000000000
  int_below h =
      let p = (judged_parts 0 f e).2 in
      let power : 10 ^ length f ≤ 10 ^ 9 = pow-le-pow_right (omega arith) h in
      omega (arith, rw (int_parts p).0 at (whole_below p.whole))
