use mathlib.Core.Path.{◌≡◌}
use mathlib.Core.List.{◌++◌}
use Prim.Native.Nat.{◌-◌, ◌*◌}
use lib.ListN.{take, replicate}
use Rattle.canonical.specs.Canon.{cells_of}
use Rattle.write_row.proofs.value_row.Given as goal

abbrev pub invariant-loop-i : goal.invariant-loop-i
invariant-loop-i l = l.row ≡ cells_of (take l.i l.values) ++ replicate (80 - 5 * l.i) 32
