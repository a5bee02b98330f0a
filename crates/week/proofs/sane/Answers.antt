-- `week::sane` meets its contract.
use Rattle.kit.specs.Answer.{×_dec}
use Rattle.kit.proofs.TruthLaws.{both}
use Rattle.week.specs.Sane.{fair?, sane?}
use Rattle.week.proofs.sane.Goals as goal

pub returns : goal.returns
unfolding sane?
returns c =
    let w = c.args.w in
    both (fair? w.sets w.tec.0) (×_dec (fair? w.sets w.rms.0) (fair? w.sets w.height.0)) c.fair.ensures
    (both (fair? w.sets w.rms.0) (fair? w.sets w.height.0) c.fair-2.ensures c.fair-3.ensures)
