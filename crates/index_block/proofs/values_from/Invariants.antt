use Prim.Native.Nat.{◌-◌}
use lib.ListN.{length}
use Rattle.index_block.proofs.HitLaws.{Going}
use Rattle.index_block.proofs.values_from.Given as goal

abbrev pub invariant-loop-left : goal.invariant-loop-left
invariant-loop-left l = Going l.text l.from l.count l.column l.at l.left l.spot

abbrev pub decreases-loop-left : goal.decreases-loop-left
decreases-loop-left l = length l.text - l.at
