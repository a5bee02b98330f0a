use native.Mathlib.Omega.{arith}
use Prim.Native.Nat.{◌-◌, ◌≤◌}
use lib.ListN.{length, take, drop, length-take, length-drop}
use Rattle.read_fill.proofs.FeedLaws.{rows_over, rows_bad}
use Rattle.read_fill.proofs.StepLaws.{over_turned, row_turned}
use Rattle.read_fill.proofs.step_at.Goals as goal

pub brought_by-b-requires : goal.brought_by-b-requires
brought_by-b-requires c =
    let f = c.in-Row.ensures.fits in
    let t = c.args.text.now in
    let e : length (take (c.in-Row.end - c.in-Row.start) (drop c.in-Row.start t)) ≤ 80 = simp (length-take, length-drop) (omega arith) in
    (e, c.requires.1)

pub returns-in-Over : goal.returns-in-Over
returns-in-Over c = over_turned _ _ _ c.requires.0 (rows_over c.args.text.now c.args.at c.in-Over.ensures)

pub returns-in-Bad : goal.returns-in-Bad
returns-in-Bad c = over_turned _ _ _ c.requires.0 (rows_bad c.args.text.now c.args.at c.in-Bad.ensures)

pub returns-in-Row : goal.returns-in-Row
returns-in-Row c = row_turned _ _ _ c.requires.0 c.in-Row.ensures _ _ c.brought_by-b.ensures
