-- `days::year_days` meets its contract.
use mathlib.Core.Path.{sym, ◌∙◌}
use Rattle.days.proofs.YearLaws.{days_leap, days_common}
use Rattle.days.proofs.year_days.Goals as goal

pub returns-then-leap_flag-eq1 : goal.returns-then-leap_flag-eq1
returns-then-leap_flag-eq1 c = sym (days_leap _ (sym c.leap_flag.ensures ∙ c.if-leap_flag-eq1.true))

pub returns-else-leap_flag-eq1 : goal.returns-else-leap_flag-eq1
returns-else-leap_flag-eq1 c = sym (days_common _ (λ e. c.if-leap_flag-eq1.false (c.leap_flag.ensures ∙ e)))
