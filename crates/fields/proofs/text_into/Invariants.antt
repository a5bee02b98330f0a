use mathlib.Core.Path.{◌≡◌}
use lib.ListN.{take}
use Rattle.forms.specs.Columns.{columns}
use Rattle.fields.proofs.text_into.Given as goal

abbrev pub invariant-loop-i : goal.invariant-loop-i
invariant-loop-i l = take l.i l.out ≡ columns l.line l.a l.i
