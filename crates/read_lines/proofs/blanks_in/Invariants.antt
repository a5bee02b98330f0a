use Rattle.std.proofs.Common.{◌≡◌, ◌+◌, drop}
use Rattle.read_lines.specs.Lines.{passing, blank?}
use Rattle.read_lines.proofs.blanks_in.Given as goal

abbrev pub invariant-loop-i : goal.invariant-loop-i
invariant-loop-i l = passing blank? l.line ≡ l.i + passing blank? (drop l.i l.line)
