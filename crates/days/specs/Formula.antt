-- The days of whole years by a formula. `years_by_formula`: it is the sum over the years, whatever their number.
use Rattle.std.specs.Prelude.{ℕ, ◌+◌, ◌-◌, ◌/◌}

-- the leap days of the years 1 to y: each fourth, less each hundredth, and each four-hundredth
unfoldable pub leap_days : ℕ → ℕ
leap_days y = y / 4 - y / 100 + y / 400
