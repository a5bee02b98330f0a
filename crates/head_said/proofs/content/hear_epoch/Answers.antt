use mathlib.Core.Path.{sym, ap, ◌∙◌}
use Rattle.std.proofs.lemmas.Result.{err_from_is_err_and}
use Rattle.kit.specs.Answer.{amap}
use Rattle.reading.specs.Feed.{answer_of}
use Rattle.head_said.proofs.RecordLaws.{epoch_says}
use Rattle.head_said.proofs.content.hear_epoch.Goals as goal

pub returns-in_err-second : goal.returns-in_err-second
unfolding amap
returns-in_err-second c =
    let p = err_from_is_err_and c.from_residual.result c.from_residual.ensures.1 in
    rw (p.1, p.2) (epoch_says _ (ap answer_of (sym c.in_err-second.was) ∙ c.epoch_in.ensures))

pub returns : goal.returns
unfolding amap
returns c = epoch_says _ (ap answer_of (sym c.in_ok-second.was) ∙ c.epoch_in.ensures)
