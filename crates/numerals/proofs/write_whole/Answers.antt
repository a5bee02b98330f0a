-- `numerals::write_whole` meets its contract: what is left, right-aligned in the columns to the left, and the columns written make the field.
use mathlib.Core.Path.{◌∙◌}
use native.Mathlib.Omega.{arith}
use Prim.Native.Nat.{◌≤◌}
use lib.ListN.{length, length-set}
use Rattle.numerals.proofs.Written.{write_first, write_next, write_done}
use Rattle.numerals.proofs.write_whole.Goals as goal

pub loop-i-init : goal.loop-i-init
loop-i-init c = rw length-set (write_first c.args.out.now c.args.minus c.args.n c.requires)

pub loop-i-preserved : goal.loop-i-preserved
loop-i-preserved c =
    let l = c.loop-i in
    let h : l.i ≤ length l.out = let e = simp length-set at l.auto.out in omega arith in
    rw c.left_byte.ensures (write_next l.out l.i l.left l.due c.loop-i-test.true h ∙ l.invariant)

pub returns : goal.returns
returns c = write_done _ c.loop-i.i c.loop-i.left c.loop-i.due c.loop-i-test.false ∙ c.loop-i.invariant ∙ simp length-set
