use mathlib.Core.Path.{◌≡◌}
use mathlib.Core.Bool.{◌&&◌}
use lib.ListN.{drop}
use Rattle.kit.specs.Answer.{all_dec}
use Rattle.kit.specs.Range.{within?}
use Rattle.kit.specs.Truth.{truth}
use Rattle.sound_header.proofs.all_within.Given as goal

abbrev pub invariant-loop-b : goal.invariant-loop-b
invariant-loop-b l = truth (all_dec (within? l.low l.high) l.bytes) ≡ (l.fits && truth (all_dec (within? l.low l.high) (drop l.b-index l.bytes)))
