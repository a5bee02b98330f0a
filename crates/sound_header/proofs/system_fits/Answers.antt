-- `sound_header::system_fits` meets its contract.
use Rattle.kit.proofs.TruthLaws.{both}
use Rattle.mapset.specs.Sound.{count?, system?}
use Rattle.sound_header.proofs.system_fits.Goals as goal

pub returns : goal.returns
unfolding system?
returns c = let s = c.args.s in both (count? s.stands s.stations) (count? s.stands s.satellites) c.count_fits.ensures c.count_fits-2.ensures
