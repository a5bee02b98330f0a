-- `days::days_to_year` meets its contract: the formula is the sum.
use native.Mathlib.Omega.{arith}
use Prim.Native.Nat.{◌+◌}
use Rattle.days.proofs.FormulaLaws.{leap_le, years_by_formula}
use Rattle.days.proofs.days_to_year.Goals as goal

pub overflow_add-result : goal.overflow_add-result
overflow_add-result c = record { fits = omega (arith, c.leap_days.ensures, leap_le (1899 + c.args.n)) }

pub overflow_sub-result : goal.overflow_sub-result
overflow_sub-result c = omega (arith, c.leap_days.ensures, c.leap_days-2.ensures, years_by_formula c.args.n)

pub returns : goal.returns
returns c = omega (arith, c.leap_days.ensures, c.leap_days-2.ensures, years_by_formula c.args.n)
