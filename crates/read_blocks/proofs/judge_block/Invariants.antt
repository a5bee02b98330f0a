use Prim.Native.Nat.{◌-◌}
use lib.ListN.{length}
use Rattle.read_blocks.specs.Steps.{Moved}
use Rattle.read_blocks.proofs.judge_block.Given as goal

abbrev pub invariant-loop-left : goal.invariant-loop-left
invariant-loop-left l = Moved l.text l.from l.lines l.count l.at l.n l.left

abbrev pub decreases-loop-left : goal.decreases-loop-left
decreases-loop-left l = length l.text - l.at
