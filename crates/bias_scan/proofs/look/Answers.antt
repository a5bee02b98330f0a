-- `bias_scan::look` meets its contract.
use mathlib.Core.Path.{sym, ◌∙◌}
use Rattle.kit.proofs.TruthLaws.{truth_true, truth_false}
use Rattle.bias_scan.proofs.TurnLaws.{last_still, skip_past, satellite_past, station_past, station_twice}
use Rattle.bias_scan.proofs.look.Goals as goal

pub returns-then-is_same : goal.returns-then-is_same
returns-then-is_same c = let a = c.args in station_twice a.text.now a.from.at a.from.lines a.from.place _ _ _ a.x (rw c.in-Ok-Station.field-0-is at c.in-Ok-Station.ensures).row (truth_true _ (sym c.is_same.ensures ∙ c.if-is_same.true))

pub returns-in-Ok-Last : goal.returns-in-Ok-Last
returns-in-Ok-Last c = let a = c.args in let k = (rw c.in-Ok-Last.field-0-is at c.in-Ok-Last.ensures) in last_still a.text.now a.from.at a.from.lines a.from.place k.0 k.1 k.2 a.x k.3

pub returns-in-Ok-Skip : goal.returns-in-Ok-Skip
returns-in-Ok-Skip c = let a = c.args in let k = (rw c.in-Ok-Skip.field-0-is at c.in-Ok-Skip.ensures) in skip_past a.text.now a.from.at a.from.lines a.from.place k.0 _ _ a.x _ k.1

pub returns-in-Ok-Satellite : goal.returns-in-Ok-Satellite
returns-in-Ok-Satellite c = let a = c.args in rw c.behind.ensures (satellite_past a.text.now a.from.at a.from.lines a.from.place _ _ _ a.x (rw c.in-Ok-Satellite.field-0-is at c.in-Ok-Satellite.ensures).row)

pub returns-else-is_same : goal.returns-else-is_same
returns-else-is_same c = let a = c.args in rw c.behind-in-Ok-Station.ensures (station_past a.text.now a.from.at a.from.lines a.from.place _ _ _ a.x (rw c.in-Ok-Station.field-0-is at c.in-Ok-Station.ensures).row (truth_false _ (sym c.is_same.ensures ∙ c.if-is_same.false)))
