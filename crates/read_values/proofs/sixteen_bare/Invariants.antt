use Rattle.read_values.proofs.BareRows.{SoBare}
use Rattle.read_values.proofs.sixteen_bare.Given as goal

abbrev pub invariant-loop-x : goal.invariant-loop-x
invariant-loop-x l = SoBare l.ok l.b l.x-index
