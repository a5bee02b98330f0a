use Rattle.read_values.proofs.QuickRows.{Stood}
use Rattle.read_values.proofs.sixteen_stand.Given as goal

abbrev pub invariant-loop-j : goal.invariant-loop-j
invariant-loop-j l = Stood l.ok l.b l.ends l.a l.j
