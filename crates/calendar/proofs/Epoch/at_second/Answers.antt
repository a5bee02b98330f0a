-- `calendar::Epoch::at_second` meets its contract.
use native.Mathlib.Omega.{arith}
use mathlib.Core.Path.{refl}
use Rattle.calendar.proofs.DateLaws.{dated_below}
use Rattle.calendar.proofs.Epoch.at_second.Goals as goal

pub returns-else-t-lt-END : goal.returns-else-t-lt-END
returns-else-t-lt-END c = (refl, λ e d. omega (arith, dated_below _ _ _ _ _ _ _ d))
