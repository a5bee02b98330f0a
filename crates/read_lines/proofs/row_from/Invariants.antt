use Rattle.std.proofs.Common.{length, ◌-◌}
use Rattle.read_lines.proofs.Reaching.{Reach}
use Rattle.read_lines.proofs.row_from.Given as goal

abbrev pub invariant-loop-at : goal.invariant-loop-at
invariant-loop-at l = Reach l.text l.from l.passed l.at l.n

abbrev pub decreases-loop-at : goal.decreases-loop-at
decreases-loop-at l = length l.text - l.at
