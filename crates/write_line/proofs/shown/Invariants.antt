use mathlib.Core.Path.{◌≡◌}
use lib.ListN.{take}
use Rattle.canonical.specs.Canon.{trimmed}
use Rattle.write_line.proofs.shown.Given as goal

abbrev pub invariant-loop-n : goal.invariant-loop-n
invariant-loop-n l = trimmed (take l.n l.row) ≡ trimmed l.row
