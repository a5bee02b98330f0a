-- `days::month_days` meets its contract.
use native.Mathlib.Omega.{arith}
use mathlib.Core.Path.{refl}
use Rattle.days.specs.Years.{month_days}
use Rattle.days.proofs.YearLaws.{month_le}
use Rattle.days.proofs.month_days.Goals as goal

-- the table is the definition's
pub returns : goal.returns
unfolding month_days
returns c = refl

pub overflow_cast-result : goal.overflow_cast-result
unfolding month_days
overflow_cast-result c = record { fits = omega (arith, month_le c.args.leap c.args.month) }
