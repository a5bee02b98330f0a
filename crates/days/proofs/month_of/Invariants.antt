use mathlib.Core.Path.{◌≡◌}
use Prim.Native.Nat.{◌+◌}
use Rattle.days.specs.Sums.{sum}
use Rattle.days.specs.Years.{month_days}
use Rattle.days.proofs.month_of.Given as goal

abbrev pub invariant-loop-k : goal.invariant-loop-k
invariant-loop-k l = l.days ≡ sum (month_days l.leap) l.k + l.rest
