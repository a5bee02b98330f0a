use mathlib.Core.Path.{◌≡◌}
use Rattle.head_state.proofs.GotLaws.{all_from}
use Rattle.head_state.proofs.complete.Given as goal

abbrev pub invariant-loop-i : goal.invariant-loop-i
invariant-loop-i l = all_from l.s.values l.i ≡ all_from l.s.values 0
