use mathlib.Core.Path.{refl, sym}
use Rattle.std.proofs.lemmas.Result.{err_from_is_err_and}
use Rattle.kit.specs.Answer.{bind}
use Rattle.head_said.proofs.RecordLaws.{axis_says}
use Rattle.head_said.proofs.content.hear_axis.Goals as goal

pub returns-in_err-axis : goal.returns-in_err-axis
unfolding bind
returns-in_err-axis c =
    let p = err_from_is_err_and c.from_residual.result c.from_residual.ensures.1 in
    rw (p.1, p.2, ← (axis_says _ _), sym c.axis_record.ensures, c.in_err-axis.was) refl

pub returns : goal.returns
unfolding bind
returns c = rw (← (axis_says _ _), sym c.axis_record.ensures, c.in_ok-axis.was) c.judged.ensures
