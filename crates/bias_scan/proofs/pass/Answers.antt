-- `bias_scan::pass` meets its contract.
use native.Mathlib.Omega.{arith}
use Rattle.bias_scan.proofs.HeldLaws.{line_who, skip_plain, satellite_plain, station_named}
use Rattle.bias_scan.proofs.pass.Goals as goal

pub returns-in-Ok-Skip : goal.returns-in-Ok-Skip
returns-in-Ok-Skip c =
    let a = c.args in
    let k = rw c.in-Ok-Skip.field-0-is at c.in-Ok-Skip.ensures in
    skip_plain a.text.now a.from.at a.from.lines a.from.place k.0 _ _ _ k.1

pub returns-in-Ok-Satellite : goal.returns-in-Ok-Satellite
returns-in-Ok-Satellite c =
    let a = c.args in
    rw c.behind.ensures (satellite_plain a.text.now a.from.at a.from.lines a.from.place _ _ _ (rw c.in-Ok-Satellite.field-0-is at c.in-Ok-Satellite.ensures).row)

pub returns-in_ok-index-in-Ok-Station : goal.returns-in_ok-index-in-Ok-Station
returns-in_ok-index-in-Ok-Station c =
    let a = c.args in
    let r = c.in-Ok-Station.r in
    let f = rw c.in-Ok-Station.field-0-is at c.in-Ok-Station.ensures in
    let i = f.inside in
    let w = f.whole in
    rw c.behind-in-Ok-Station.ensures
    (station_named a.text.now a.from.at a.from.lines a.from.place _ _ _ f.row r.start (line_who a.text.now r.start _ i w f.fits (omega (arith, c.if-r-lt26.false))) (omega (arith, c.if-r-lt26.false)), c.in_ok-index-in-Ok-Station.ensures)
