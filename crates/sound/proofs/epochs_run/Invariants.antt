use mathlib.Core.Path.{◌≡◌}
use lib.ListN.{drop}
use Rattle.kit.specs.Truth.{truth}
use Rattle.mapset.specs.SoundDecided.{run?}
use Rattle.sound.proofs.epochs_run.Given as goal

abbrev pub invariant-loop-epoch : goal.invariant-loop-epoch
invariant-loop-epoch l = truth (run? l.interval l.last l.before (drop l.epoch-index l.rest)) ≡ truth (run? l.interval l.last l.first l.rest)
