use Prim.Native.Nat.{◌-◌}
use lib.ListN.{length}
use Rattle.head.specs.Past.{Past}
use Rattle.head.proofs.remarks.next_record.Given as goal

abbrev pub invariant-loop-start : goal.invariant-loop-start
invariant-loop-start l = Past l.text l.aux l.from l.passed l.at l.n

abbrev pub decreases-loop-start : goal.decreases-loop-start
decreases-loop-start l = length l.text - l.at
