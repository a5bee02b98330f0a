-- The days of the years and of their months.
use Rattle.std.specs.Prelude.{Bool, not, cond, ◌&&◌, ◌||◌, List, [], ◌∷◌, ℕ, ◌+◌, ◌%◌, eqb, get_or}
use Rattle.days.specs.Sums.{sum}

abbrev pub divisible : ℕ → ℕ → Bool
divisible y n = eqb (y % n) 0

-- a leap year is divisible by 4 and not by 100, or by 400
unfoldable pub is_leap : ℕ → Bool
is_leap y = (divisible y 4 && not (divisible y 100)) || divisible y 400

-- the lengths of the months, in a common year and in a leap year
abbrev pub months : List (List ℕ)
months =
    (31 ∷ 28 ∷ 31 ∷ 30 ∷ 31 ∷ 30 ∷ 31 ∷ 31 ∷ 30 ∷ 31 ∷ 30 ∷ 31 ∷ [])
    ∷ (31 ∷ 29 ∷ 31 ∷ 30 ∷ 31 ∷ 30 ∷ 31 ∷ 31 ∷ 30 ∷ 31 ∷ 30 ∷ 31 ∷ [])
    ∷ []

-- the row of a year
abbrev pub row : ℕ → ℕ
row y = cond (is_leap y) 1 0

-- the days of a month, counted from 0, in a row
unfoldable pub month_days : ℕ → ℕ → ℕ
month_days r m = get_or (get_or months r []) m 0

-- the days of a year, counted from 1900, are those of its months
unfoldable pub year_days : ℕ → ℕ
year_days k = sum (month_days (row (1900 + k))) 12
