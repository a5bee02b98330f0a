-- What the fast tests promise: where they say yes, the slow ones do.
use Rattle.std.specs.Prelude.{◌≡◌, Bool, true, false, cond, ℕ, suc, ◌+◌, ◌*◌, ◌<◌, List, eqb, get_or, take, ℤ}
use Rattle.kit.specs.Answer.{ok}
use Rattle.forms.specs.Bytes.{is_digit, may_precede}
use Rattle.layout.specs.Labels.{bytes}
use Rattle.layout.specs.Text.{pad}
use Rattle.reading.specs.Fields.{cells}
use Rattle.read_lines.specs.Lines.{Rows}

-- a field's last byte is a digit; any other may precede the next
abbrev pub fits_as : ℕ → ℕ → Bool → Bool
fits_as b next last = cond last (is_digit b) (may_precede b next)

-- 1 at the last column of each field of a value line
abbrev pub last_columns : List ℕ
last_columns = bytes "00001000010000100001000010000100001000010000100001000010000100001000010000100001"

-- 16 bytes may stand in the columns from a on, if the test says so
abbrev pub Standing : Bool → List ℕ → List ℕ → ℕ → Type 0
Standing true b es a = (j : ℕ) → j < 16 → fits_as (get_or b j 0) (get_or b (suc j) 0) (eqb (get_or es (a + j) 0) 49) ≡ true
Standing false b es a = Unit {0}

-- the bytes of the first m fields fit, if the test says so
abbrev pub Fitting : Bool → List ℕ → ℕ → Type 0
Fitting true l m = (j : ℕ) → j < m * 5 → fits_as (get_or l j 0) (get_or l (suc j) 0) (eqb (get_or last_columns j 0) 49) ≡ true
Fitting false l m = Unit {0}

-- m values and nothing else are the first line; the next one starts at `next`
pub record UsualRow (t : List ℕ) (m next : ℕ) : Type 0 where
  pub rows : Rows t (m * 5) next
  pub fine : (zs : List ℤ) × (cells 1 m (pad (take (m * 5) t)) ≡ ok zs)
