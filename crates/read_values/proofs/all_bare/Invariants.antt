use Prim.Native.Nat.{◌≤◌, ◌-◌}
use Rattle.read_values.proofs.BareRows.{Bare}
use Rattle.read_values.proofs.all_bare.Given as goal

abbrev pub invariant-loop-a : goal.invariant-loop-a
invariant-loop-a l = (l.a ≤ l.n) × Bare l.text l.a

abbrev pub decreases-loop-a : goal.decreases-loop-a
decreases-loop-a l = l.n - l.a
