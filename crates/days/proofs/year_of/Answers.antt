-- `days::year_of` meets its contract: the year tried does not begin too late, and the next does not end too early.
use native.Mathlib.Omega.{arith}
use native.Mathlib.Decide.{dec_le}
use mathlib.Core.Path.{◌≡◌, ap}
use Prim.Native.Nat.{ℕ, ◌+◌, ◌-◌, ◌/◌, ◌≤◌, ◌<◌}
use Rattle.days.specs.Sums.{sum, Place}
use Rattle.days.proofs.SumLaws.{sum_suc, sum_bound}
use Rattle.days.specs.Years.{year_days}
use Rattle.days.proofs.YearLaws.{year_le, all_years}
use Rattle.days.proofs.FormulaLaws.{years_least}
use Rattle.days.proofs.year_of.Goals as goal

module _ (days : ℕ) (p : days < sum year_days 300) where
  tried : days / 366 < 300
  tried = omega (arith, all_years)

  begun : sum year_days (days / 366) ≤ days
  begun = omega (arith, sum_bound year_days 366 (year_le) (days / 366))

  not_last : (k : ℕ) → k ≤ 300 → sum year_days k ≤ days → k < 300
  not_last k h l = by (dec_le 300 k)
    where
      by : Dec (300 ≤ k) → k < 300
      by (yes g) = let e : k ≡ 300 = omega arith in absurd (omega (arith, ap (sum year_days) e))
      by (no g) = omega arith

  here : (b n : ℕ) → b ≡ sum year_days (days / 366) → n ≡ year_days (days / 366) → days - b < n
      → (days / 366 < 300) × Place year_days days (days / 366) (days - b)
  here b n e f h = (tried, record { at = omega (arith, begun); less = omega arith })

  next : (b n : ℕ) → b ≡ sum year_days (days / 366) → n ≡ year_days (days / 366) → n ≤ days - b
      → (days / 366 + 1 < 300) × Place year_days days (days / 366 + 1) (days - b - n)
  next b n e f h =
      let k = days / 366 in
      let one : sum year_days (k + 1) ≡ b + n = rw (e, f) (sum_suc year_days k) in
      let start = begun in
      let some = tried in
      let ends : days < sum year_days (k + 1 + 1) = omega (arith, years_least (k + 1 + 1)) in
      (not_last (k + 1) (omega arith) (omega arith), record { at = omega arith; less = omega (arith, sum_suc year_days (k + 1)) })

pub days_to_year-requires : goal.days_to_year-requires
days_to_year-requires c = tried _ c.requires

pub overflow_sub-rest : goal.overflow_sub-rest
overflow_sub-rest c = omega (arith, c.days_to_year.ensures, begun _ c.requires)

pub year_days-own-requires : goal.year_days-own-requires
year_days-own-requires c = tried _ c.requires

pub returns-then-rest-own : goal.returns-then-rest-own
returns-then-rest-own c = here _ c.requires _ _ c.days_to_year.ensures c.year_days-own.ensures c.if-rest-own.true

pub returns : goal.returns
returns c = next _ c.requires _ _ c.days_to_year.ensures c.year_days-own.ensures c.if-rest-own.false
