-- `sound_header::grid_fits` meets its contract.
use Rattle.kit.specs.Answer.{×_dec}
use Rattle.kit.proofs.TruthLaws.{both}
use Rattle.mapset.specs.Grid.{heights, latitudes, longitudes}
use Rattle.mapset.specs.Sound.{grid?}
use Rattle.mapset.specs.SoundDecided.{axis?}
use Rattle.sound_header.proofs.grid_fits.Goals as goal

pub returns : goal.returns
unfolding grid?
returns c =
    let g = c.args.g in
    both (axis? heights g.heights) (×_dec (axis? latitudes g.latitudes) (axis? longitudes g.longitudes)) c.axis_fits.ensures
    (both (axis? latitudes g.latitudes) (axis? longitudes g.longitudes) c.axis_fits-2.ensures c.axis_fits-3.ensures)
