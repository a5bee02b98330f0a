use mathlib.Core.Path.{◌≡◌}
use lib.Seq.{paste}
use Rattle.join_lists.proofs.copy_at.Given as goal

abbrev pub invariant-loop-j : goal.invariant-loop-j
invariant-loop-j g l = l.out ≡ paste l.initial.out l.at l.src l.j
