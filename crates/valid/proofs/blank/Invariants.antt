use mathlib.Core.Path.{◌≡◌}
use lib.ListN.{drop}
use Rattle.kit.specs.Truth.{truth}
use Rattle.areas.specs.ValidDecided.{blank?}
use Rattle.valid.proofs.blank.Given as goal

abbrev pub invariant-loop-mark : goal.invariant-loop-mark
invariant-loop-mark l = truth (blank? l.kind l.width l.v (drop l.mark-index l.marks) l.rest) ≡ truth (blank? l.kind l.width l.v l.marks l.area)
