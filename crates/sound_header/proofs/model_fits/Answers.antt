-- `sound_header::model_fits` meets its contract.
use Rattle.kit.specs.Answer.{×_dec}
use Rattle.kit.specs.Range.{within?}
use Rattle.kit.proofs.TruthLaws.{both}
use Rattle.mapset.specs.Sound.{model?}
use Rattle.sound_header.proofs.model_fits.Goals as goal

pub returns : goal.returns
unfolding model?
returns c =
    let m = c.args.m in
    both (within? 0 900 m.cutoff) (×_dec (within? 10000 999999 m.radius) (within? 2 3 m.dimension)) c.within.ensures
    (both (within? 10000 999999 m.radius) (within? 2 3 m.dimension) c.within-2.ensures c.within-3.ensures)
