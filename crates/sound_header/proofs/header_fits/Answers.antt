-- `sound_header::header_fits` meets its contract.
use Rattle.kit.proofs.TruthLaws.{both}
use Rattle.mapset.specs.Described.{full}
use Rattle.mapset.specs.Decisions.{dimension?, limits?}
use Rattle.mapset.specs.Sound.{version?, texts?, times?, model?, grid?, count?, systems?, header?}
use Rattle.sound_header.proofs.header_fits.Goals as goal

pub returns : goal.returns
unfolding header?
returns c =
    let s = c.args in
    let h = s.header in
    both (version? h.version) _ c.version_fits.ensures
    (both (texts? h.descriptions (full s.texts s.descriptions.now)) _ c.texts_fit.ensures
    (both (times? h.times) _ c.times_fit.ensures
    (both (model? h.model) _ c.model_fits.ensures
    (both (grid? h.grid) _ c.grid_fits.ensures
    (both (count? h.stations.stands h.stations.count) _ c.count_fits.ensures
    (both (count? h.satellites.stands h.satellites.count) _ c.count_fits-2.ensures
    (both (systems? h.systems) _ c.systems_fit.ensures
    (both (dimension? h.model.dimension h.grid.heights) (limits? h.times.maps h.grid) c.dimension_agrees.ensures c.limits_hold.ensures))))))))
