use mathlib.Core.Path.{◌≡◌}
use mathlib.Core.Bool.{◌&&◌}
use lib.ListN.{drop}
use Rattle.kit.specs.Answer.{all_dec}
use Rattle.kit.specs.Integer.{between?}
use Rattle.kit.specs.Truth.{truth}
use Rattle.valid.proofs.all_between.Given as goal

abbrev pub invariant-loop-z : goal.invariant-loop-z
invariant-loop-z l = truth (all_dec (between? l.low l.high) l.values) ≡ (l.fits && truth (all_dec (between? l.low l.high) (drop l.z-index l.values)))
