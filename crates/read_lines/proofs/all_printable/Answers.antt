use native.Mathlib.Omega.{arith}
use Rattle.read_lines.proofs.QuickLines.{so_next, so_end}
use Rattle.read_lines.proofs.all_printable.Goals as goal

pub loop-x-preserved : goal.loop-x-preserved
loop-x-preserved c = so_next c.loop-x.ok c.args.b.now c.loop-x.x-index c.loop-x-test.true c.loop-x.invariant

pub returns : goal.returns
returns c = so_end c.loop-x.ok c.args.b.now c.loop-x.x-index c.requires (omega arith) c.loop-x.invariant
