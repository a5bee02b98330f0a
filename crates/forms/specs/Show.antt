-- Writing a number field: right-aligned and without needless zeros (document 01, 'Canonical text').
use Rattle.std.specs.Prelude.{ℕ, zero, suc, ◌+◌, ◌-◌, ◌/◌, ◌%◌, ◌^◌, ◌≤◌, ◌<◌, Bool, true, false, List, [], ◌∷◌, ◌++◌, length, take, drop, replicate, ℤ, pos, negsuc, nat_abs}
use Rattle.std.proofs.Math.Decide.{dec_le, dec_lt}
use Rattle.kit.specs.Answer.{×_dec}
use Rattle.forms.specs.Form.{Form, sign, pointed, dot}

abbrev pub is_minus : ℤ → Bool
is_minus (pos n) = false
is_minus (negsuc n) = true

-- the digits of n, where k is at least n: 0 has none
abbrev pub figures : ℕ → ℕ → List ℕ
figures zero n = []
figures (suc k) zero = []
figures (suc k) (suc n) = figures k (suc n / 10) ++ ((48 + suc n % 10) ∷ [])

-- the digits of n, with zeros in front where these are fewer than k
unfoldable pub digits : ℕ → ℕ → List ℕ
digits k n = replicate (k - length (figures n n)) 48 ++ figures n n

-- the point in front of the last k digits
abbrev pub with_point : ℕ → List ℕ → List ℕ
with_point k ds = take (length ds - k) ds ++ pointed (drop (length ds - k) ds)

-- right-aligned in w columns
unfoldable pub aligned : ℕ → List ℕ → List ℕ
aligned w l = drop (length l) (replicate w 32 ++ l)

unfoldable pub show_field : Form → ℕ → ℤ → List ℕ
show_field fm w z = aligned w (sign (is_minus z) ++ with_point fm.after (digits (fm.least + fm.after) (nat_abs z)))

-- the columns for digits: all but the minus and the point
abbrev pub digit_columns : Form → ℕ → ℤ → ℕ
digit_columns fm w z = w - (length (sign (is_minus z)) + dot fm.after)

-- the number has a place in w columns
abbrev pub FieldRoom : Form → ℕ → ℤ → Type 0
FieldRoom fm w z = (fm.least + fm.after ≤ digit_columns fm w z) × (nat_abs z < 10 ^ digit_columns fm w z)

unfoldable pub room? : (fm : Form) (w : ℕ) (z : ℤ) → Dec (FieldRoom fm w z)
room? fm w z = ×_dec (dec_le (fm.least + fm.after) (digit_columns fm w z)) (dec_lt (nat_abs z) (10 ^ digit_columns fm w z))
