use Prim.Native.Nat.{◌-◌}
use lib.ListN.{length}
use Rattle.read_blocks.proofs.BlockLaws.{Filling}
use Rattle.read_blocks.proofs.fill_block.Given as goal

abbrev pub invariant-loop-done : goal.invariant-loop-done
invariant-loop-done l = Filling l.text l.from l.lines (length l.initial.out) l.at l.n l.done l.out

abbrev pub decreases-loop-done : goal.decreases-loop-done
decreases-loop-done l = length l.text - l.at
