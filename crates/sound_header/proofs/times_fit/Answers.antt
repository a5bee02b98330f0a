-- `sound_header::times_fit` meets its contract.
use native.Mathlib.Decide.{dec_lt}
use Rattle.kit.specs.Answer.{×_dec}
use Rattle.kit.specs.Range.{within?}
use Rattle.kit.proofs.TruthLaws.{both, lt_tells}
use Rattle.calendar.specs.End.{end}
use Rattle.mapset.specs.Sound.{times?}
use Rattle.sound_header.proofs.times_fit.Goals as goal

pub returns : goal.returns
unfolding times?
returns c =
    let t = c.args.t in
    both (dec_lt t.first end) (×_dec (dec_lt t.last end) (×_dec (within? 0 21600 t.interval) (within? 1 300 t.maps))) (lt_tells _ _)
    (both (dec_lt t.last end) (×_dec (within? 0 21600 t.interval) (within? 1 300 t.maps)) (lt_tells _ _)
    (both (within? 0 21600 t.interval) (within? 1 300 t.maps) c.within.ensures c.within-2.ensures))
