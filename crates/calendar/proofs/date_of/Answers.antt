-- `calendar::date_of` meets its contract.
use native.Mathlib.Omega.{arith}
use Prim.Native.Nat.{◌+◌}
use Rattle.days.proofs.YearLaws.{row_two, all_years}
use Rattle.calendar.proofs.DateLaws.{in_months, date_made}
use Rattle.calendar.proofs.date_of.Goals as goal

pub year_of-year-requires : goal.year_of-year-requires
year_of-year-requires c = omega (arith, all_years)

pub month_of-month-requires : goal.month_of-month-requires
month_of-month-requires c =
    let y = c.year_of-year in
    (omega (arith, c.leap_flag.ensures, row_two (1900 + y.result.index)), rw c.leap_flag.ensures (in_months y.result.index y.result.rest y.ensures.1.less))

pub returns : goal.returns
returns c =
    let m = c.month_of-month in
    let l = c.leap_flag in
    let y = c.year_of-year in
    date_made c.args.t y.result.index y.result.rest m.result.index m.result.rest y.ensures.0 y.ensures.1 m.ensures.0 (rw l.ensures at m.ensures.1)
