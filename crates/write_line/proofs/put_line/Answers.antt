-- `write_line::put_line` meets its contract.
use Rattle.write_line.proofs.LineLaws.{line_put, line_over}
use Rattle.write_line.proofs.put_line.Goals as goal

pub returns-then-out-e : goal.returns-then-out-e
returns-then-out-e c =
    let s = c.args in
    let e = c.shown-n.ensures in
    line_over s.out.now s.row.now s.at _ e.0 e.1 c.if-out-e.true

pub returns : goal.returns
returns c =
    let s = c.args in
    let e = c.shown-n.ensures in
    line_put s.out.now s.row.now s.at _ e.0 e.1 _ c.if-out-e.false c.copy_from_slice.ensures.after
