use Prim.Native.Nat.{◌-◌}
use lib.ListN.{length}
use Rattle.bias_fill.specs.Flat.{lent}
use Rattle.bias_fill.specs.Filled.{Stays}
use Rattle.bias_fill.proofs.fill_areas.Given as goal

abbrev pub invariant-loop-next : goal.invariant-loop-next
invariant-loop-next l =
    Stays l.text (lent l.initial.satellites l.initial.stations l.initial.names) l.f (lent l.satellites l.stations l.names)

abbrev pub decreases-loop-next : goal.decreases-loop-next
decreases-loop-next l = length l.text - l.f.cursor.at
