-- A number written from its last digit to the left.
use mathlib.Core.Path.{◌≡◌, refl, sym, ap, ◌∙◌}
use mathlib.Core.Bool.{Bool, true, false, ◌&&◌}
use mathlib.Core.List.{List, [], ◌∷◌, ◌++◌, append_assoc, append-nil}
use Prim.Native.Nat.{ℕ, zero, suc, ◌+◌, ◌-◌, ◌/◌, ◌%◌, ◌≤◌, ◌<◌}
use native.Mathlib.Numerals.{sub-one}
use native.Mathlib.Omega.{arith}
use lib.ListN.{length, take, drop, set, replicate, length-append, length-drop, length-replicate, replicate-append-replicate, drop_of_length-le}
use lib.Seq.{take_at, drop_at, take-length, drop-length, set_at, set_split, append_snoc, length-take-le, drop-drop, drop-append-le, drop-append-add}
use lib.IntN.{ℤ, pos, negsuc, nat_abs}
use lib.Signed.{lt_z}
use lib.Dec.{ltb}
use borrow.Author.Tests.{lt-ltb, le-ltb}
use Rattle.forms.specs.Form.{Form, I, W1, sign}
use Rattle.forms.specs.Show.{is_minus, figures, digits, with_point, aligned, show_field}
use Rattle.forms.specs.Bytes.{left_byte}
use Rattle.forms.proofs.ShowLaws.{figures_enough}

-- ---- one digit more at the end

figures_more : (n : ℕ) → figures (suc n) (suc n) ≡ figures (suc n / 10) (suc n / 10) ++ ((48 + suc n % 10) ∷ [])
figures_more n = rw (figures_enough n (suc n / 10) (suc n / 10) (omega arith) (omega arith))

replicate_more : (k b : ℕ) → replicate (suc k) b ≡ replicate k b ++ (b ∷ [])
replicate_more zero b = refl
replicate_more (suc k) b = ap (◌∷◌ b) (replicate_more k b)

digits_more : (k n : ℕ) → digits (suc k) n ≡ digits k (n / 10) ++ ((48 + n % 10) ∷ [])
unfolding digits
digits_more k zero =
    let z : suc k - 0 ≡ suc (k - 0) = omega arith in
    rw z (simp append-nil (replicate_more (k - 0) 48))
digits_more k (suc n) =
    let f = figures (suc n / 10) (suc n / 10) in
    let size : length (f ++ ((48 + suc n % 10) ∷ [])) ≡ length f + 1 = length-append f ((48 + suc n % 10) ∷ []) in
    let z : suc k - (length f + 1) ≡ k - length f = omega arith in
    rw (figures_more, size, z, append_assoc)

digits_none : (n : ℕ) → digits 0 n ≡ figures n n
unfolding digits
digits_none n = let z : 0 - length (figures n n) ≡ 0 = omega arith in rw z

-- ---- right-aligned, with more at the end

aligned_more : (w : ℕ) (l t : List ℕ) (n : ℕ) → n ≡ w + length t → aligned n (l ++ t) ≡ aligned w l ++ t
unfolding aligned
aligned_more w l t n e =
    let blanks : replicate {A = ℕ} n 32 ≡ replicate (length t) 32 ++ replicate w 32 = let z : n ≡ length t + w = omega arith in rw (z, replicate-append-replicate) in
    let size : length (l ++ t) ≡ length {A = ℕ} (replicate (length t) 32) + length l = rw (length-append, length-replicate) (omega arith) in
    let room : length l ≤ length (replicate w 32 ++ l) = rw length-append (omega arith) in
    rw (blanks, size, append_assoc (replicate (length t) 32) (replicate w 32) (l ++ t), drop-append-add, ← append_assoc (replicate w 32) l t) (drop-append-le (length l) (replicate w 32 ++ l) t room)

blank_more : (i : ℕ) → aligned (suc i) [] ≡ aligned i [] ++ (32 ∷ [])
unfolding aligned
blank_more i = simp append-nil (replicate_more i 32)

left_more : (i n : ℕ) (minus : Bool) → aligned (suc i) (sign minus ++ figures n n) ≡ aligned i (sign (ltb 0 n && minus) ++ figures (n / 10) (n / 10)) ++ (left_byte n minus ∷ [])
left_more i zero true = aligned_more i [] (45 ∷ []) (suc i) (omega arith)
left_more i zero false = blank_more i
left_more i (suc n) minus =
    rw (lt-ltb 0 (suc n) (omega arith), figures_more, ← append_assoc (sign minus) (figures (suc n / 10) (suc n / 10)) ((48 + suc n % 10) ∷ []))
    (aligned_more i (sign minus ++ figures (suc n / 10) (suc n / 10)) ((48 + suc n % 10) ∷ []) (suc i) (omega arith))

-- ---- the loop

drop_set : (out : List ℕ) (i b : ℕ) → i < length out → drop i (set out i b) ≡ b ∷ drop (suc i) out
drop_set out i b h = rw (set_split out i b h) (drop_at (take i out) _ i (length-take-le i out (omega arith)))

-- the last digit
pub write_first : (out : List ℕ) (minus : Bool) (n : ℕ) → 0 < length out
    → aligned (length out - 1) (sign minus ++ figures (n / 10) (n / 10)) ++ drop (length out - 1) (set out (length out - 1) (48 + n % 10)) ≡ aligned (length out) (sign minus ++ digits 1 n)
write_first out minus n h =
    let i = length out - 1 in
    let d = (48 + n % 10) ∷ [] in
    let front = sign minus ++ figures (n / 10) (n / 10) in
    let past : length out ≤ suc i = omega arith in
    let end : drop (suc i) out ≡ [] = drop_of_length-le out past in
    rw (drop_set out i (48 + n % 10) (omega arith), end, digits_more, digits_none, ← append_assoc (sign minus) (figures (n / 10) (n / 10)) d)
    (sym (aligned_more i front d (length out) (omega arith)))

pub write_next : (out : List ℕ) (i n : ℕ) (minus : Bool) → 0 < i → i ≤ length out
    → aligned (i - 1) (sign (ltb 0 n && minus) ++ figures (n / 10) (n / 10)) ++ drop (i - 1) (set out (i - 1) (left_byte n minus)) ≡ aligned i (sign minus ++ figures n n) ++ drop i out
write_next out zero n minus h k = absurd (omega arith)
write_next out (suc i) n minus h k = rw (sub-one, drop_set out i (left_byte n minus) k, left_more) (sym (append_assoc (aligned i (sign (ltb 0 n && minus) ++ figures (n / 10) (n / 10))) (left_byte n minus ∷ []) (drop (suc i) out)))

pub write_done : (out : List ℕ) (i n : ℕ) (minus : Bool) → i ≤ 0 → out ≡ aligned i (sign minus ++ figures n n) ++ drop i out
unfolding aligned
write_done out zero n minus h = rw (drop-length)
write_done out (suc i) n minus h = absurd (omega arith)

-- ---- the forms

point_none : (ds : List ℕ) → with_point 0 ds ≡ ds
point_none ds =
    let z : length ds - 0 ≡ length ds = omega arith in
    rw (z, take-length, drop-length, append-nil)

pub int_shown : (w : ℕ) (z : ℤ) → aligned w (sign (is_minus z) ++ digits 1 (nat_abs z)) ≡ show_field I w z
unfolding show_field
int_shown w z = rw point_none

point_last : (ds : List ℕ) (d : ℕ) → with_point 1 (ds ++ (d ∷ [])) ≡ ds ++ (46 ∷ d ∷ [])
point_last ds d =
    let size = length-append ds (d ∷ []) in
    let k : length ds ≡ length (ds ++ (d ∷ [])) - 1 = omega arith in
    rw (take_at ds (d ∷ []) _ k, drop_at ds (d ∷ []) _ k)

tenths_shown : (w : ℕ) (z : ℤ) → 2 ≤ w → aligned (w - 2) (sign (is_minus z) ++ digits 1 (nat_abs z / 10)) ++ (46 ∷ (48 + nat_abs z % 10) ∷ []) ≡ show_field W1 w z
unfolding show_field
tenths_shown w z h =
    let n = nat_abs z in
    let ds = digits 1 (n / 10) in
    let t : List ℕ = 46 ∷ (48 + n % 10) ∷ [] in
    rw (digits_more 1 n, point_last ds (48 + n % 10), ← append_assoc (sign (is_minus z)) ds t)
    (sym (aligned_more (w - 2) (sign (is_minus z) ++ ds) t w (omega arith)))

-- ---- the bytes

pub left_digit : (n : ℕ) (minus : Bool) → 0 < n → 48 + n % 10 ≡ left_byte n minus
left_digit zero minus h = absurd (omega arith)
left_digit (suc n) minus h = refl

pub left_zero : (n : ℕ) → n ≤ 0 → n ≡ 0
left_zero n h = omega arith

-- ---- the number

pub minus_test : (z : ℤ) → lt_z z (pos 0) ≡ is_minus z
minus_test (pos n) = le-ltb n 0 (omega arith)
minus_test (negsuc n) = refl

-- ---- stores

two_stored : (q r : List ℕ) (n a b : ℕ) → length q ≡ n → length r ≡ 2 → set (set (q ++ r) n a) (n + 1) b ≡ q ++ (a ∷ b ∷ [])
two_stored q [] n a b e h = absurd (omega arith)
two_stored q (x ∷ []) n a b e h = absurd (omega arith)
two_stored q (x ∷ y ∷ []) n a b e h =
    ap (λ (l : List ℕ). set l (n + 1) b) (set_at q x (y ∷ []) a n e ∙ sym (append_snoc q a (y ∷ [])))
    ∙ set_at (q ++ (a ∷ [])) y [] b (n + 1) (simp length-append (omega arith))
    ∙ append_snoc q a (b ∷ [])
two_stored q (x ∷ y ∷ z ∷ r) n a b e h = absurd (omega arith)

-- the whole part q is written to the front of out, the point and the last digit behind it
pub tenths_stored : (out q : List ℕ) (z : ℤ) (minus : Bool) (n : ℕ) → 2 ≤ length out → length q ≡ length (take (length out - 2) out)
    → q ≡ aligned (length (take (length out - 2) out)) (sign minus ++ digits 1 (n / 10)) → minus ≡ is_minus z → n ≡ nat_abs z
    → set (set (q ++ drop (length out - 2) out) (length out - 2) 46) (length out - 2 + 1) (48 + n % 10) ≡ show_field W1 (length out) z
tenths_stored out q z minus n h k e em en =
    let w = length out - 2 in
    let t : length (take w out) ≡ w = length-take-le w out (omega arith) in
    two_stored q (drop w out) w 46 (48 + n % 10) (k ∙ t) (simp length-drop (omega arith))
    ∙ (rw (e, t, em, en)) ∙ tenths_shown (length out) z h

-- q is written into columns a + 1 to a + n of a line
pub put_field : (fm : Form) (line q : List ℕ) (a n : ℕ) (y z : ℤ) → a + n ≤ length line → q ≡ show_field fm (length (take (a + n - a) (drop a line))) y → y ≡ z
    → take a line ++ (q ++ drop (a + n - a) (drop a line)) ≡ take a line ++ (show_field fm n z ++ drop (a + n) line)
put_field fm line q a n y z h e k =
    let d : a + n - a ≡ n = omega arith in
    let t : length (take n (drop a line)) ≡ n = length-take-le n (drop a line) (rw length-drop (omega arith)) in
    rw (e, k, d, t, drop-drop)
