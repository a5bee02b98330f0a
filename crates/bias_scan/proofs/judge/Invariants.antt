use Prim.Native.Nat.{◌-◌}
use lib.ListN.{length}
use Rattle.bias_scan.specs.Judged.{Stands}
use Rattle.bias_scan.proofs.judge.Given as goal

abbrev pub invariant-loop-t : goal.invariant-loop-t
invariant-loop-t l = Stands l.text l.s

abbrev pub decreases-loop-t : goal.decreases-loop-t
decreases-loop-t l = length l.text - l.s.cursor.at
