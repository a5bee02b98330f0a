-- `write_line::put_row` meets its contract.
use Prim.Native.Nat.{◌*◌}
use native.Mathlib.Omega.{arith}
use lib.ListN.{length}
use Rattle.canonical.specs.Canon.{value_row}
use Rattle.write_line.proofs.LineLaws.{line_over}
use Rattle.write_line.proofs.ShownLaws.{row_shown, row_holds}
use Rattle.write_line.proofs.put_row.Goals as goal

pub returns-then-out-at : goal.returns-then-out-at
returns-then-out-at c =
    let a = c.args in
    let vs = a.values.now in
    line_over a.out.now (value_row vs) a.at (5 * length vs) (row_holds vs) (row_shown vs) (omega arith)
