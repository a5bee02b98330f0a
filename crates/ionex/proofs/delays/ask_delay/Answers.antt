use mir.Facts.{to_z-of_z}
use Rattle.ionex.proofs.delays.ask_delay.Goals as goal

pub returns : goal.returns
returns c = record { outcome = let s = c.before.before.before.before in rw (to_z-of_z s.ranges.lat, to_z-of_z s.ranges.lon) at c.ask_delay.ensures }
