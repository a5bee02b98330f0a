-- `days::leap_days` meets its contract.
use mathlib.Core.Path.{refl}
use Rattle.days.specs.Formula.{leap_days}
use Rattle.days.proofs.leap_days.Goals as goal

pub returns : goal.returns
unfolding leap_days
returns c = refl
