-- A row of values without a minus, which is stored by pairs of digits.
use Rattle.std.specs.Prelude.{◌≡◌, Bool, true, false, ◌||◌, ℕ, suc, ◌+◌, ◌-◌, ◌*◌, ◌<◌, ◌≤◌, List, eqb, length, get_or}
use Rattle.forms.specs.Bytes.{is_digit}
use Rattle.read_lines.specs.Lines.{Rows}

-- a blank or a digit
abbrev pub bare : ℕ → Bool
bare b = eqb b 32 || is_digit b

-- the first n bytes, 16 or more, are blanks and digits, if the test says so
abbrev pub Bares : Bool → List ℕ → ℕ → Type 0
Bares true l n = (16 ≤ n) × ((i : ℕ) → i < n → bare (get_or l i 0) ≡ true)
Bares false l n = Unit {0}

-- no byte of the first n and of the one behind them is above 9
abbrev pub Lows : List ℕ → ℕ → Type 0
Lows l n = (i : ℕ) → i ≤ n → get_or l i 0 ≤ 57

-- m fields of blanks and digits, which take 16 bytes or more
pub record Plain (t : List ℕ) (m : ℕ) : Type 0 where
  pub long : 16 ≤ m * 5
  pub within : m * 5 < length t
  pub bares : (i : ℕ) → i < m * 5 → bare (get_or t i 0) ≡ true
  pub lows : Lows t (m * 5)

-- these and nothing else are the first line; the next one starts at `next`
pub record BareRow (t : List ℕ) (m next : ℕ) : Type 0 where
  pub rows : Rows t (m * 5) next
  pub plain : Plain t m

-- the digits of the first n columns, each with the one behind it
pub record Paired (l p : List ℕ) (n : ℕ) : Type 0 where
  pub pair : (i : ℕ) → i < n → get_or p i 0 ≡ (get_or l i 0 - 48) * 10 + (get_or l (suc i) 0 - 48)
