-- What the leap rule and the table of months come to.
use mathlib.Core.Path.{◌≡◌, refl}
use mathlib.Core.Bool.{Bool, true, false, cond}
use mathlib.Core.List.{List, [], ◌∷◌}
use Prim.Native.Nat.{ℕ, zero, suc, ◌+◌, ◌≤◌, ◌<◌}
use native.Mathlib.Omega.{arith}
use lib.Dec.{T, leb, leb→le}
use lib.ListN.{get_or}
use Rattle.days.specs.Sums.{sum}
use Rattle.days.specs.Years.{is_leap, row, months, month_days, year_days}

pub row_two : (y : ℕ) → row y < 2
row_two y = by (is_leap y)
  where
    by : (t : Bool) → cond t 1 0 < 2
    by true = omega arith
    by false = omega arith

pub days_leap : (k : ℕ) → row (1900 + k) ≡ 1 → year_days k ≡ 366
unfolding year_days sum month_days
days_leap k e = rw e refl

pub days_common : (k : ℕ) → (row (1900 + k) ≡ 1 → ⊥) → year_days k ≡ 365
unfolding year_days sum month_days
days_common k n = let e : row (1900 + k) ≡ 0 = omega (arith, row_two (1900 + k)) in rw e refl

pub year_le : (k : ℕ) → year_days k ≤ 366
unfolding year_days sum month_days
year_le k = by (is_leap (1900 + k))
  where
    by : (t : Bool) → sum (month_days (cond t 1 0)) 12 ≤ 366
    by true = omega arith
    by false = omega arith

-- a bound of a list, computed
abbrev all_le : ℕ → List ℕ → Bool
all_le b [] = true
all_le b (x ∷ l) = cond (leb x b) (all_le b l) false

all_le_lem : (b : ℕ) (l : List ℕ) → T (all_le b l) → (i : ℕ) → get_or l i 0 ≤ b
all_le_lem b [] t i = omega arith
all_le_lem b (x ∷ l) t i = by (leb x b) (leb→le x b) t (λ q. all_le_lem b l q) i
  where
    by : (u : Bool) → (T u → x ≤ b) → T (cond u (all_le b l) false) → (T (all_le b l) → (i : ℕ) → get_or l i 0 ≤ b) → (i : ℕ) → get_or (x ∷ l) i 0 ≤ b
    by true h t g zero = h tt
    by true h t g (suc i) = g t i
    by false h t g i = absurd t

pub month_le : (r m : ℕ) → month_days r m ≤ 31
unfolding month_days
month_le zero m = all_le_lem 31 (get_or months 0 []) tt m
month_le (suc zero) m = all_le_lem 31 (get_or months 1 []) tt m
month_le (suc (suc n)) m = omega arith

-- the days of the 300 years
pub all_years : sum year_days 300 ≡ 109573
unfolding year_days sum month_days is_leap
all_years = refl
