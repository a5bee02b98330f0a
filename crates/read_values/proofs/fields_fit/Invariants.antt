use Prim.Native.Nat.{◌≤◌, ◌-◌}
use Rattle.read_values.proofs.QuickRows.{Fit}
use Rattle.read_values.proofs.fields_fit.Given as goal

abbrev pub invariant-loop-a : goal.invariant-loop-a
invariant-loop-a l = (l.a ≤ l.n) × Fit l.text l.a

abbrev pub decreases-loop-a : goal.decreases-loop-a
decreases-loop-a l = l.n - l.a
