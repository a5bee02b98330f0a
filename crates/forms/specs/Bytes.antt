-- What the code looks at, byte by byte; the laws in `proofs/` tie it to the fields.
use Rattle.std.specs.Prelude.{ℕ, zero, suc, ◌+◌, ◌%◌, ◌≤◌, ◌<◌, Bool, false, cond, ◌&&◌, ◌||◌, List, [], ◌∷◌, length, leb, eqb}
use Rattle.forms.specs.Form.{numeral}

abbrev pub is_digit : ℕ → Bool
is_digit b = leb 48 b && leb b 57

-- in a whole number: before anything a blank, before a digit a minus or a digit
abbrev pub may_precede : ℕ → ℕ → Bool
may_precede b next = eqb b 32 || ((eqb b 45 || is_digit b) && is_digit next)

abbrev pub has_minus : List ℕ → Bool
has_minus [] = false
has_minus (b ∷ bs) = eqb b 45 || has_minus bs

-- the number in front of the point, and with the digits after it, has at most nine digits
pub record Small (front part : List ℕ) : Type 0 where
  pub columns : length front + length part ≤ 9
  pub whole : numeral 0 front < 1000000000
  pub all : numeral (numeral 0 front) part < 1000000000

-- where n is left to be written, and a minus or not: the next byte to the left
abbrev pub left_byte : ℕ → Bool → ℕ
left_byte zero minus = cond minus 45 32
left_byte (suc n) minus = 48 + suc n % 10
