use Rattle.read_lines.proofs.QuickLines.{So}
use Rattle.read_lines.proofs.all_printable.Given as goal

abbrev pub invariant-loop-x : goal.invariant-loop-x
invariant-loop-x l = So l.ok l.x-index l.b
