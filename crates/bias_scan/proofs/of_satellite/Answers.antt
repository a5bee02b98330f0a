-- `bias_scan::of_satellite` meets its contract.
use mathlib.Core.Path.{◌≡◌, sym, ◌∙◌}
use native.Mathlib.Omega.{arith}
use lib.ListN.{get_or}
use Rattle.bias_scan.specs.Walk.{first}
use Rattle.bias_scan.proofs.WalkLaws.{given_small}
use Rattle.bias_scan.specs.Marks.{spot, marked}
use Rattle.bias_scan.proofs.MarkLaws.{spot_below, unmarked, marked_twice, said_small}
use Rattle.bias_scan.proofs.JudgedLaws.{satellite_refused, satellite_twice, satellite_new}
use Rattle.bias_scan.proofs.of_satellite.Goals as goal

pub spot-j-requires : goal.spot-j-requires
spot-j-requires c = (said_small _ c.in-Ok.x (sym c.in-Ok.ensures)).number

pub bounds-s-j : goal.bounds-s-j
bounds-s-j c =
    let b = spot_below c.in-Ok.x (said_small _ c.in-Ok.x (sym c.in-Ok.ensures)) in
    omega (arith, c.spot-j.ensures, b)

pub returns-then-s-j-ne0 : goal.returns-then-s-j-ne0
returns-then-s-j-ne0 c =
    let a = c.args in
    let x = c.in-Ok.x in
    let m : get_or a.s.marks c.spot-j.result 0 ≡ get_or (marked _) (spot x) 0 = λ i. get_or (c.requires.0.marks i) (c.spot-j.ensures i) 0 in
    rw c.on-then-s-j-ne0.ensures (satellite_twice a.text.now a.s c.requires.0 _ a.r.next a.r.lines c.requires.1.row x c.in-Ok.ensures (marked_twice x (said_small _ x (sym c.in-Ok.ensures)) _ (given_small a.s.rows (first a.text.now)) (λ q. c.if-s-j-ne0.true (m ∙ q))))

pub past_satellite-requires : goal.past_satellite-requires
past_satellite-requires c =
    let b = spot_below c.in-Ok.x (said_small _ c.in-Ok.x (sym c.in-Ok.ensures)) in
    let z = c.requires.0 in
    let o = c.requires.1.row in
    rw c.behind.ensures (omega (arith, z.rows, o.ahead), omega (arith, z.fours, o.ahead), omega (arith, c.spot-j.ensures, b))

pub returns-in-Err : goal.returns-in-Err
returns-in-Err c = rw c.on.ensures (satellite_refused c.args.text.now c.args.s c.requires.0 _ c.args.r.next c.args.r.lines c.requires.1.row _ _ c.in-Err.ensures)

pub returns-else-s-j-ne0 : goal.returns-else-s-j-ne0
returns-else-s-j-ne0 c =
    let a = c.args in
    let x = c.in-Ok.x in
    let m : get_or a.s.marks c.spot-j.result 0 ≡ get_or (marked _) (spot x) 0 = λ i. get_or (c.requires.0.marks i) (c.spot-j.ensures i) 0 in
    rw (c.past_satellite.ensures, c.behind.ensures, c.spot-j.ensures)
    (satellite_new a.text.now a.s c.requires.0 _ a.r.next a.r.lines c.requires.1.row x c.in-Ok.ensures (unmarked x (said_small _ x (sym c.in-Ok.ensures)) _ (given_small a.s.rows (first a.text.now)) (sym m ∙ c.if-s-j-ne0.false)) c.requires.1.long, c.requires.1.row.ahead)
