use Rattle.fields.proofs.Steps.{Led}
use Rattle.fields.proofs.leads.Given as goal

abbrev pub invariant-loop-i : goal.invariant-loop-i
invariant-loop-i l = Led l.f l.d l.ok l.next l.i
