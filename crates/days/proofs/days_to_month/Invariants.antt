use mathlib.Core.Path.{◌≡◌}
use Rattle.days.specs.Sums.{sum}
use Rattle.days.specs.Years.{month_days}
use Rattle.days.proofs.days_to_month.Given as goal

abbrev pub invariant-loop-k : goal.invariant-loop-k
invariant-loop-k l = l.days ≡ sum (month_days l.leap) l.k
