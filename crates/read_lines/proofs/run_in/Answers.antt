use native.Mathlib.Omega.{arith}
use Rattle.read_lines.proofs.Passing.{printable_counted}
use Rattle.read_lines.proofs.QuickLines.{ahead_le, ahead_run}
use Rattle.read_lines.proofs.run_in.Goals as goal

pub overflow_add-result : goal.overflow_add-result
overflow_add-result c =
    let s = c.before.before in
    let h = ahead_le s.args.text.now _ s.sixteens_in-i.ensures _ (printable_counted _ _ c.printable_in.ensures) in
    omega arith

pub returns : goal.returns
returns c =
    let s = c.before.before in
    ahead_run s.args.text.now _ s.sixteens_in-i.ensures _ (printable_counted _ _ c.printable_in.ensures)
