use mathlib.Core.Path.{refl}
use Rattle.mapset.specs.Areas.{six}
use Rattle.mapset.specs.Lines.{no_lines}
use Rattle.read_judge.proofs.JudgeLaws.{one_to_ten}
use Rattle.read_text.proofs.StoreLaws.{outcome_refused}
use Rattle.read_text.proofs.read_text.Goals as goal

pub judge-requires : goal.judge-requires
unfolding no_lines
judge-requires c = refl

pub store-requires : goal.store-requires
store-requires c = c.in-Ok.ensures

pub returns-in-Err : goal.returns-in-Err
returns-in-Err c =
    let a = c.args in
    let l = six a.tec.now a.rms.now a.height.now a.exponents.now a.epochs.now a.marks.now in
    let f = c.refused.ensures in
    rw (f.0, f.1, c.from.ensures (one_to_ten a.text.now _ c.in-Err.ensures)) (outcome_refused a.text.now l _ c.in-Err.ensures)
