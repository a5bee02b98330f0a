-- `calendar::second_of` meets its contract.
use native.Mathlib.Omega.{arith}
use mathlib.Core.Path.{◌≡◌, ap, ◌∙◌}
use Prim.Native.Nat.{ℕ, ◌+◌, ◌*◌, ◌-◌, ◌<◌}
use Rattle.days.specs.Sums.{sum}
use Rattle.days.specs.Years.{row, month_days, year_days}
use Rattle.calendar.specs.Calendar.{second}
use Rattle.calendar.specs.End.{end}
use Rattle.days.proofs.YearLaws.{row_two}
use Rattle.calendar.proofs.DateLaws.{below_end}
use Rattle.calendar.specs.declared.Epoch.{Epoch}
use borrow.Author.Rules.{rules}
use Rattle.calendar.proofs.second_of.Statement.{statement}
use Rattle.calendar.proofs.second_of.Tie as tie

module _ (c : tie.After-days_to_month-months) where
  abbrev e : Epoch
  e = c.args.e

  years_in : c.days_to_year-years.result ≡ sum year_days (e.year - 1900)
  years_in = c.days_to_year-years.ensures

  months_in : c.days_to_month-months.result ≡ sum (month_days (row e.year)) (e.month - 1)
  months_in = c.days_to_month-months.ensures ∙ ap (λ (r : ℕ). sum (month_days r) (e.month - 1)) c.leap_flag.ensures

  -- the whole is a second of the calendar
  bound : (c.days_to_year-years.result + (c.days_to_month-months.result + (e.day - 1))) * 86400 + (e.hour * 3600 + (e.minute * 60 + e.second)) < end
  unfolding second
  bound = omega (arith, years_in, months_in, below_end e c.requires)

cast-year : tie.Need-overflow_cast-year
cast-year c = search rules

sub-days-to-year : tie.Need-overflow_sub-year
sub-days-to-year c = search rules

days-to-year-requires : tie.Need-days_to_year-years-requires
days-to-year-requires c κs = search rules

leap-flag-requires : tie.Need-leap_flag-requires
leap-flag-requires c κs = search rules

cast-days-to-month : tie.Need-overflow_cast-e
cast-days-to-month c = search rules

sub-days-to-month : tie.Need-overflow_sub-e
sub-days-to-month c = search rules

days-to-month-requires : tie.Need-days_to_month-months-requires
days-to-month-requires c κs = (omega (arith, c.leap_flag.ensures, row_two c.args.e.year), omega (arith, c.requires.1.0))

cast-days : tie.Need-overflow_cast-days
cast-days c = search rules

sub-days : tie.Need-overflow_sub-days
sub-days c = search rules

add-days : tie.Need-overflow_add-days
add-days c = record { fits = omega (arith, bound c.before) }

add-days-2 : tie.Need-overflow_add-days-2
add-days-2 c = record { fits = omega (arith, bound c.before) }

cast-clock : tie.Need-overflow_cast-clock
cast-clock c = search rules

mul-clock : tie.Need-overflow_mul-clock
mul-clock c = search rules

cast-clock-2 : tie.Need-overflow_cast-clock-2
cast-clock-2 c = search rules

mul-clock-2 : tie.Need-overflow_mul-clock-2
mul-clock-2 c = search rules

cast-clock-3 : tie.Need-overflow_cast-clock-3
cast-clock-3 c = search rules

add-clock : tie.Need-overflow_add-clock
add-clock c = search rules

add-clock-2 : tie.Need-overflow_add-clock-2
add-clock-2 c = search rules

mul-result : tie.Need-overflow_mul-result
mul-result c = record { fits = omega (arith, bound c.before.before.before.before) }

add-result : tie.Need-overflow_add-result
add-result c = record { fits = omega (arith, bound c.before.before.before.before) }

returns : tie.Need-returns
unfolding second
returns c = omega (arith, years_in c.before.before.before.before, months_in c.before.before.before.before)

pub second_of_spec : {M : Type 1} → statement M
second_of_spec = tie.close (tie.spec cast-year sub-days-to-year days-to-year-requires leap-flag-requires cast-days-to-month sub-days-to-month days-to-month-requires cast-days sub-days add-days add-days-2 cast-clock mul-clock cast-clock-2 mul-clock-2 cast-clock-3 add-clock add-clock-2 mul-result add-result returns)
