-- What is written stands for the number, and a number has room exactly where some field stands for it.
use mathlib.Core.Path.{◌≡◌, refl, sym, ap, ◌∙◌}
use mathlib.Core.Bool.{Bool, true, false}
use mathlib.Core.List.{List, [], ◌∷◌, ◌++◌, append_assoc}
use Prim.Native.Nat.{ℕ, zero, suc, ◌+◌, ◌-◌, ◌*◌, ◌/◌, ◌^◌, ◌≤◌, ◌<◌}
use native.Mathlib.Nat.{pow-suc, pow-le-pow_right}
use native.Mathlib.Omega.{arith}
use lib.ListN.{length, take, drop, replicate, length-append, length-drop, length-replicate, take-append-drop, replicate-append-replicate}
use lib.Seq.{length-take-le, drop_at}
use lib.IntN.{ℤ, pos, negsuc, nat_abs}
use Rattle.kit.specs.Answer.{All}
use Rattle.kit.proofs.ListLaws.{all_append}
use Rattle.forms.specs.Form.{Form, F1, W1, Digit, numeral, sign, signed, dot, Spells}
use Rattle.forms.specs.Show.{is_minus, figures, digits, with_point, aligned, show_field, digit_columns, FieldRoom}
use Rattle.forms.proofs.FieldLaws.{pointed_length}

-- ---- digits and the number that they make

pub numeral_append : (a : ℕ) (xs ys : List ℕ) → numeral a (xs ++ ys) ≡ numeral (numeral a xs) ys
numeral_append a [] ys = refl
numeral_append a (x ∷ xs) ys = numeral_append (a * 10 + (x - 48)) xs ys

pub numeral_below : (a b : ℕ) (ds : List ℕ) → All Digit ds → a < b → numeral a ds < b * 10 ^ length ds
numeral_below a b [] h l = omega arith
numeral_below a b (d ∷ ds) h l =
    let k = h.0 in
    let e = numeral_below (a * 10 + (d - 48)) (b * 10) ds h.1 (omega arith) in
    rw (pow-suc 10 (length ds)) (omega arith)

figures_all : (k n : ℕ) → All Digit (figures k n)
figures_all zero n = tt
figures_all (suc k) zero = tt
figures_all (suc k) (suc n) = all_append Digit (figures k (suc n / 10)) _ (figures_all k (suc n / 10)) (omega arith, tt)

figures_number : (k n : ℕ) → n ≤ k → numeral 0 (figures k n) ≡ n
figures_number zero n h = omega arith
figures_number (suc k) zero h = refl
figures_number (suc k) (suc n) h = rw numeral_append (omega (arith, figures_number k (suc n / 10) (omega arith)))

pub figures_enough : (j k n : ℕ) → n ≤ j → n ≤ k → figures j n ≡ figures k n
figures_enough zero zero n h g = refl
figures_enough zero (suc k) zero h g = refl
figures_enough zero (suc k) (suc n) h g = absurd (omega arith)
figures_enough (suc j) zero zero h g = refl
figures_enough (suc j) zero (suc n) h g = absurd (omega arith)
figures_enough (suc j) (suc k) zero h g = refl
figures_enough (suc j) (suc k) (suc n) h g = rw (figures_enough j k (suc n / 10) (omega arith) (omega arith))

figures_length : (k n d : ℕ) → n < 10 ^ d → length (figures k n) ≤ d
figures_length zero n d h = omega arith
figures_length (suc k) zero d h = omega arith
figures_length (suc k) (suc n) zero h = omega arith
figures_length (suc k) (suc n) (suc d) h =
    let p = pow-suc 10 d in
    rw length-append (omega (arith, figures_length k (suc n / 10) d (omega arith)))

zeros_all : (k : ℕ) → All Digit (replicate k 48)
zeros_all zero = tt
zeros_all (suc k) = (omega arith, zeros_all k)

zeros_number : (k : ℕ) → numeral 0 (replicate k 48) ≡ 0
zeros_number zero = refl
zeros_number (suc k) = zeros_number k

module _ (k n : ℕ) where
  digits_all : All Digit (digits k n)
  unfolding digits
  digits_all = all_append Digit (replicate (k - length (figures n n)) 48) (figures n n) (zeros_all (k - length (figures n n))) (figures_all n n)

  digits_number : numeral 0 (digits k n) ≡ n
  unfolding digits
  digits_number = rw (numeral_append, zeros_number) (figures_number n n (omega arith))

  digits_length : (k ≤ length (digits k n)) × ((d : ℕ) → k ≤ d → n < 10 ^ d → length (digits k n) ≤ d)
  unfolding digits
  digits_length =
      rw (length-append, length-replicate) (omega arith, λ d h l. omega (arith, figures_length n n d l))

-- ---- right-aligned

module _ (w : ℕ) (l : List ℕ) where
  aligned_is : length l ≤ w → aligned w l ≡ replicate (w - length l) 32 ++ l
  unfolding aligned
  aligned_is h =
      let k = length l in
      let e : k + (w - k) ≡ w = omega arith in
      let blanks : replicate {A = ℕ} w 32 ≡ replicate k 32 ++ replicate (w - k) 32 = sym (replicate-append-replicate k (w - k) 32 ∙ ap (λ (n : ℕ). replicate n 32) e) in
      rw (blanks, append_assoc) (drop_at (replicate k 32) _ k (length-replicate k 32))

  aligned_width : length (aligned w l) ≡ w
  unfolding aligned
  aligned_width = simp (length-drop, length-append, length-replicate) (omega arith)

pub show_width : (fm : Form) (w : ℕ) (z : ℤ) → length (show_field fm w z) ≡ w
unfolding show_field
show_width fm w z = aligned_width w _

-- ---- what is written stands for the number

number_is : (z : ℤ) → z ≡ signed (is_minus z) (nat_abs z)
number_is (pos n) = refl
number_is (negsuc n) = refl

-- the minus and the point have their columns
room_marks : (w a k : ℕ) (z : ℤ) → k + a ≤ w - (length (sign (is_minus z)) + dot a) → nat_abs z < 10 ^ (w - (length (sign (is_minus z)) + dot a))
    → length (sign (is_minus z)) + dot a ≤ w
room_marks w (suc a) k z h l = omega arith
room_marks w zero k (pos n) h l = omega arith
room_marks zero zero k (negsuc n) h l = absurd (omega arith)
room_marks (suc w) zero k (negsuc n) h l = omega arith

pub show_spells : {fm : Form} {w : ℕ} {z : ℤ} → FieldRoom fm w z → Spells fm w z (show_field fm w z)
unfolding show_field
show_spells {fm} {w} {z} r =
    let ds = digits (fm.least + fm.after) (nat_abs z) in
    let k = length ds - fm.after in
    let n = digits_length (fm.least + fm.after) (nat_abs z) in
    let most = n.1 (digit_columns fm w z) r.0 r.1 in
    let whole : length (take k ds) ≡ k = length-take-le k ds (omega arith) in
    let part : length (drop k ds) ≡ fm.after = length-drop k ds ∙ omega arith in
    let marks = room_marks w fm.after fm.least z r.0 r.1 in
    let all : take k ds ++ drop k ds ≡ ds = take-append-drop k ds in
    let body = with_point fm.after ds in
    let fits : length (sign (is_minus z) ++ body) ≤ w =
    rw (length-append, length-append (take k ds), pointed_length, part) (omega arith) in
    record {
      blanks = w - length (sign (is_minus z) ++ body);
      minus = is_minus z;
      whole = take k ds;
      part = drop k ds;
      digits = rw all (digits_all (fm.least + fm.after) (nat_abs z));
      enough = omega arith;
      places = part;
      bytes = aligned_is w (sign (is_minus z) ++ body) fits;
      number = number_is z ∙ ap (signed (is_minus z)) (sym (ap (numeral 0) all ∙ digits_number (fm.least + fm.after) (nat_abs z)));
      width = aligned_width w (sign (is_minus z) ++ body);
    }

-- with a digit before the point, which the form need not ask for
pub written_spells : {w : ℕ} {z : ℤ} → FieldRoom W1 w z → Spells F1 w z (show_field W1 w z)
written_spells {w} {z} r =
    let s = show_spells {fm = W1} {w = w} {z = z} r in
    record {
      blanks = s.blanks;
      minus = s.minus;
      whole = s.whole;
      part = s.part;
      digits = s.digits;
      enough = omega arith;
      places = s.places;
      bytes = s.bytes;
      number = s.number;
      width = s.width;
    }

-- ---- what a field stands for has room

sign_shorter : (minus : Bool) (n : ℕ) → length (sign (is_minus (signed minus n))) ≤ length (sign minus)
sign_shorter true zero = omega arith
sign_shorter true (suc n) = omega arith
sign_shorter false n = omega arith

pub signed_size : (minus : Bool) (n : ℕ) → nat_abs (signed minus n) ≡ n
signed_size true zero = refl
signed_size true (suc n) = refl
signed_size false n = refl

pub spells_room : {fm : Form} {w : ℕ} {z : ℤ} {f : List ℕ} → Spells fm w z f → FieldRoom fm w z
spells_room {fm} {w} {z} {f} s =
    let all = s.whole ++ s.part in
    let n = numeral 0 all in
    let columns : s.blanks + (length (sign s.minus) + (length s.whole + (dot fm.after + fm.after))) ≡ w =
    sym (rw (s.bytes, length-append, length-replicate, length-append, length-append, pointed_length, s.places) at (sym s.width)) in
    let shorter : length (sign (is_minus z)) ≤ length (sign s.minus) = rw s.number (sign_shorter s.minus n) in
    let many : length all ≡ length s.whole + fm.after = length-append s.whole s.part ∙ ap (λ (k : ℕ). length s.whole + k) s.places in
    let least : fm.least ≤ length s.whole = s.enough in
    let some : length all ≤ digit_columns fm w z = omega arith in
    let size : nat_abs z ≡ n = ap nat_abs s.number ∙ signed_size s.minus n in
    let below : n < 1 * 10 ^ length all = numeral_below 0 1 all s.digits (omega arith) in
    let power : 10 ^ length all ≤ 10 ^ digit_columns fm w z = pow-le-pow_right (omega arith) some in
    (omega arith, omega arith)
