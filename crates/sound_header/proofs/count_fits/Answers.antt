-- `sound_header::count_fits` meets its contract.
use Rattle.kit.proofs.TruthLaws.{eq_tells}
use Rattle.mapset.specs.Sound.{count?}
use Rattle.sound_header.proofs.count_fits.Goals as goal

pub returns-then-stands : goal.returns-then-stands
unfolding count?
returns-then-stands c = rw c.if-stands.true c.within.ensures

pub returns-else-stands : goal.returns-else-stands
unfolding count?
returns-else-stands c = rw c.if-stands.false (eq_tells _ 0)
