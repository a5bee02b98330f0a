use mathlib.Core.Path.{◌≡◌}
use mathlib.Core.Bool.{◌&&◌}
use lib.ListN.{drop}
use Rattle.fields.proofs.Judged.{well}
use Rattle.fields.proofs.is_int.Given as goal

abbrev pub invariant-loop-i : goal.invariant-loop-i
invariant-loop-i l = well l.f ≡ (l.ok && well (drop l.i l.f))
