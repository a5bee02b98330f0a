use Prim.Native.Nat.{◌-◌}
use lib.ListN.{length}
use Rattle.read_lines.specs.Quick.{Ahead}
use Rattle.read_lines.proofs.sixteens_in.Given as goal

abbrev pub invariant-loop-i : goal.invariant-loop-i
invariant-loop-i l = Ahead l.text l.i

abbrev pub decreases-loop-i : goal.decreases-loop-i
decreases-loop-i l = length l.text - l.i
