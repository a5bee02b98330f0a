-- `c_week::broken` meets its contract.
use Rattle.week.specs.Week.{tecu, km}
use Rattle.c_week.proofs.broken.Goals as goal

pub returns : goal.returns
returns c = let e = c.empty-t.ensures in λ i. record { sets = 0; tec = tecu (e i); rms = tecu (e i); height = km (e i) }
