use Prim.Native.Nat.{◌-◌}
use lib.ListN.{length}
use Rattle.maps.specs.Turns.{Running}
use Rattle.maps.proofs.judge_with.Given as goal

abbrev pub invariant-loop-passed : goal.invariant-loop-passed
invariant-loop-passed l =
    Running l.header (record { exponent = l.exponent; rms = 0; height = 0 }) l.text l.start l.lines (length l.initial.table) l.table l.place l.past l.at l.n l.k

abbrev pub decreases-loop-passed : goal.decreases-loop-passed
decreases-loop-passed l = length l.text - l.at
