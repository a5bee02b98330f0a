-- `bias_scan::of_station` meets its contract.
use mathlib.Core.Path.{sym, ◌∙◌}
use Rattle.kit.proofs.TruthLaws.{truth_true, truth_false}
use Rattle.bias_scan.proofs.JudgedLaws.{station_refused, station_twice, station_good, station_new}
use Rattle.bias_scan.proofs.of_station.Goals as goal

pub returns-then-s-good : goal.returns-then-s-good
returns-then-s-good c =
    let a = c.args in
    let z = c.requires.2 in
    let e = c.in-Ok.ensures in
    let n = station_good a.text.now a.s c.requires.1 _ a.r.next a.r.lines z.row c.in-Ok.x e a.good c.requires.0 c.if-s-good.true in
    rw (c.past_station.ensures, c.behind.ensures) (station_new a.text.now a.s c.requires.1 _ a.r.next a.r.lines z.row c.in-Ok.x e n z.long, z.row.ahead)

pub returns-then-is_new : goal.returns-then-is_new
returns-then-is_new c =
    let a = c.args in
    let z = c.requires.2 in
    let e = c.in-Ok.ensures in
    let n = truth_true _ (sym c.is_new.ensures ∙ c.if-is_new.true) in
    rw (c.past_station-then-is_new.ensures, c.behind-then-is_new.ensures) (station_new a.text.now a.s c.requires.1 _ a.r.next a.r.lines z.row c.in-Ok.x e n z.long, z.row.ahead)

pub returns-in-Err : goal.returns-in-Err
returns-in-Err c = rw c.on.ensures (station_refused c.args.text.now c.args.s c.requires.1 _ c.args.r.next c.args.r.lines c.requires.2.row _ _ c.in-Err.ensures)

pub returns-else-is_new : goal.returns-else-is_new
returns-else-is_new c =
    let a = c.args in
    rw c.on-in-Ok.ensures (station_twice a.text.now a.s c.requires.1 _ a.r.next a.r.lines c.requires.2.row c.in-Ok.x c.in-Ok.ensures (truth_false _ (sym c.is_new.ensures ∙ c.if-is_new.false)))
