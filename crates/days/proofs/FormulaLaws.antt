-- `years_by_formula`: the formula is the sum over the years, whatever their number.
use mathlib.Core.Path.{◌≡◌, refl, ap}
use mathlib.Core.Bool.{Bool, true, false, not, cond, ◌&&◌, ◌||◌}
use Prim.Native.Nat.{ℕ, zero, suc, ◌+◌, ◌-◌, ◌*◌, ◌/◌, ◌%◌, ◌≤◌}
use native.Mathlib.Omega.{arith}
use borrow.Author.Tests.{eqb-true, eqb-false}
use Rattle.days.specs.Sums.{sum}
use Rattle.days.specs.Years.{is_leap, row, divisible, month_days, year_days}
use Rattle.days.specs.Formula.{leap_days}

module _ (y : ℕ) where
  pub leap_le : leap_days y ≤ y
  unfolding leap_days
  leap_le = omega arith

  -- the multiples of 4, of 100 and of 400 up to the next year
  by_4 : (t : Bool) → divisible (suc y) 4 ≡ t → suc y / 4 ≡ y / 4 + cond t 1 0
  by_4 true e = omega (arith, eqb-true (suc y % 4) 0 e)
  by_4 false e = omega (arith, eqb-false (suc y % 4) 0 e)

  by_100 : (t : Bool) → divisible (suc y) 100 ≡ t → suc y / 100 ≡ y / 100 + cond t 1 0
  by_100 true e = omega (arith, eqb-true (suc y % 100) 0 e)
  by_100 false e = omega (arith, eqb-false (suc y % 100) 0 e)

  by_400 : (t : Bool) → divisible (suc y) 400 ≡ t → suc y / 400 ≡ y / 400 + cond t 1 0
  by_400 true e = omega (arith, eqb-true (suc y % 400) 0 e)
  by_400 false e = omega (arith, eqb-false (suc y % 400) 0 e)

  4_of_100 : suc y % 100 ≡ 0 → suc y % 4 ≡ 0
  4_of_100 e = omega arith

  100_of_400 : suc y % 400 ≡ 0 → suc y % 100 ≡ 0
  100_of_400 e = omega arith

  fewer : y / 100 ≤ y / 4
  fewer = omega arith

  -- the row of a year says how many leap days it has
  row_counts : leap_days (suc y) ≡ leap_days y + row (suc y)
  unfolding is_leap leap_days
  row_counts = by (divisible (suc y) 4) (divisible (suc y) 100) (divisible (suc y) 400) refl refl refl
    where
      count : (p q r a b c s t u : ℕ) → p ≡ a + s → q ≡ b + t → r ≡ c + u → b ≤ a → t ≤ s → p - q + r ≡ a - b + c + (s - t + u)
      count p q r a b c s t u i j k l m = omega arith

      by : (s t u : Bool) → divisible (suc y) 4 ≡ s → divisible (suc y) 100 ≡ t → divisible (suc y) 400 ≡ u
          → leap_days (suc y) ≡ leap_days y + cond ((s && not t) || u) 1 0
      by true true true p q r = count _ _ _ _ _ _ 1 1 1 (by_4 true p) (by_100 true q) (by_400 true r) fewer (omega arith)
      by true true false p q r = count _ _ _ _ _ _ 1 1 0 (by_4 true p) (by_100 true q) (by_400 false r) fewer (omega arith)
      by true false false p q r = count _ _ _ _ _ _ 1 0 0 (by_4 true p) (by_100 false q) (by_400 false r) fewer (omega arith)
      by false false false p q r = count _ _ _ _ _ _ 0 0 0 (by_4 false p) (by_100 false q) (by_400 false r) fewer (omega arith)
      by s false true p q r = absurd (eqb-false (suc y % 100) 0 q (100_of_400 (eqb-true (suc y % 400) 0 r)))
      by false true u p q r = absurd (eqb-false (suc y % 4) 0 p (4_of_100 (eqb-true (suc y % 100) 0 q)))

-- a year has 365 days, and its leap day
year_counts : (k : ℕ) → year_days k ≡ 365 + row (1900 + k)
unfolding year_days sum month_days
year_counts k = by (is_leap (1900 + k))
  where
    by : (t : Bool) → sum (month_days (cond t 1 0)) 12 ≡ 365 + cond t 1 0
    by true = refl
    by false = refl

pub years_by_formula : (n : ℕ) → sum year_days n + leap_days 1899 ≡ 365 * n + leap_days (1899 + n)
unfolding sum
years_by_formula zero = refl
years_by_formula (suc n) =
    let e : leap_days (1899 + suc n) ≡ leap_days (suc (1899 + n)) = ap leap_days (omega arith) in
    let f : row (1900 + n) ≡ row (suc (1899 + n)) = ap row (omega arith) in
    omega (arith, years_by_formula n, year_counts n, row_counts (1899 + n))

-- so n years have 365 days each at least
pub years_least : (n : ℕ) → 365 * n ≤ sum year_days n
unfolding sum
years_least zero = omega arith
years_least (suc n) = omega (arith, years_least n, year_counts n)
