use mathlib.Core.Path.{◌≡◌}
use Prim.Native.Nat.{◌+◌, ◌-◌}
use Rattle.forms.specs.Columns.{columns, further, first_not_blank}
use Rattle.fields.proofs.first_not_blank.Given as goal

abbrev pub invariant-loop-i : goal.invariant-loop-i
invariant-loop-i l = further (l.a + 1) (first_not_blank (columns l.line l.a (l.e - l.a))) ≡ further (l.i + 1) (first_not_blank (columns l.line l.i (l.e - l.i)))
