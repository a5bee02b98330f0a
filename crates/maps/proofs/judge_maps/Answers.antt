use mir.Facts.{to_z-of_z}
use Rattle.maps.proofs.judge_maps.Goals as goal

pub returns : goal.returns
returns c = rw (to_z-of_z c.ranges.exponent) at c.judge_with.ensures
