use Rattle.bias_scan.specs.Held.{StoodAt, Clear}
use Rattle.bias_scan.proofs.check.Given as goal

abbrev pub invariant-loop-row : goal.invariant-loop-row
invariant-loop-row l = StoodAt l.text l.row l.next × Clear l.text l.from.rows l.row
