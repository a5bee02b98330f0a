-- `bias_scan::check` meets its contract.
use Rattle.bias_scan.proofs.HeldLaws.{peeked_stood, peeked_clear, good_clear}
use native.Mathlib.Omega.{arith}
use Rattle.bias_scan.proofs.check.Goals as goal

pub loop-row-init : goal.loop-row-init
loop-row-init c = (c.requires.0, good_clear c.args.text.now c.args.from.rows c.requires.1)

pub loop-row-preserved : goal.loop-row-preserved
loop-row-preserved c =
    let a = c.args in
    let l = c.loop-row in
    let p = c.in-Some.p in (
      peeked_stood a.text.now l.row l.next.at l.next.lines l.next.place l.invariant.0 a.starts.now p.next p.slot c.in-Some.ensures,
      peeked_clear a.text.now l.row l.next.at l.next.lines l.next.place l.invariant.0 a.starts.now p.next a.from.rows a.from.limit c.requires.2 (omega arith) (omega arith) l.invariant.1 p.slot c.in-Some.ensures,
    )
