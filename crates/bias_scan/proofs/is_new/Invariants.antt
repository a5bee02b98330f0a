use Rattle.bias_scan.proofs.LookLaws.{Looking}
use Rattle.bias_scan.proofs.is_new.Given as goal

abbrev pub invariant-loop-row : goal.invariant-loop-row
invariant-loop-row l = Looking l.text l.x l._row l.next.at l.next.lines l.next.place
