-- `c_week::too_short` meets its contract.
use Rattle.c_week.specs.WeekExported.{week_short}
use Rattle.c_week.proofs.too_short.Goals as goal

pub returns : goal.returns
unfolding week_short
returns c = c.too_short_two.ensures
