use mathlib.Core.Path.{◌≡◌}
use mathlib.Core.List.{◌++◌}
use lib.ListN.{length, drop}
use Rattle.forms.specs.Form.{sign}
use Rattle.forms.specs.Show.{figures, digits, aligned}
use Rattle.numerals.proofs.write_whole.Given as goal

abbrev pub invariant-loop-i : goal.invariant-loop-i
invariant-loop-i l = aligned l.i (sign l.due ++ figures l.left l.left) ++ drop l.i l.out ≡ aligned (length l.initial.out) (sign l.minus ++ digits 1 l.n)
