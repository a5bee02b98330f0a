use native.Mathlib.Omega.{arith}
use Rattle.read_lines.specs.Lines.{printable?}
use Rattle.read_lines.proofs.Nearby.{front_stops}
use Rattle.read_lines.proofs.QuickLines.{quick_row, quick_skip}
use Rattle.read_lines.proofs.line_in.Goals as goal

pub returns-then-b-w : goal.returns-then-b-w
returns-then-b-w c =
    let t = c.args.text.now in
    let w = c.run_in-w.result in
    let is = front_stops printable? t _ c.near-m.ensures.within w c.run_in-w.ensures (omega arith) in
    quick_row t w is (omega (arith, c.near-m.ensures.within)) _ c.in-Some.ensures (omega arith) _ c.blanks_in-b.ensures (omega arith)

pub returns : goal.returns
returns c =
    let t = c.args.text.now in
    let w = c.run_in-w.result in
    let is = front_stops printable? t _ c.near-m.ensures.within w c.run_in-w.ensures (omega arith) in
    quick_skip t w is (omega (arith, c.near-m.ensures.within)) _ c.in-Some.ensures (omega arith) _ c.blanks_in-b.ensures (omega arith)
