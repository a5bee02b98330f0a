-- `ask::ask` meets its contract.
use mathlib.Core.Path.{refl}
use mir.Facts.{to_z-of_z}
use Rattle.std.proofs.lemmas.Result.{err_from_is_err_and}
use Rattle.mapset.specs.Described.{full}
use Rattle.mapset.specs.Areas.{six}
use Rattle.ask.specs.Ask.{Question, question}
use Rattle.ask.proofs.Opened.{barred_answers, open_answers}
use Rattle.ask.proofs.ask.Goals as goal
use Rattle.ask.proofs.ask.Goals.{Start}

abbrev q : Start → Question
q s =
    let a = s.args in
    question a.header (full a.texts a.descriptions.now) (six a.tec.now a.rms.now a.height.now a.exponents.now a.epochs.now a.marks.now) a.kind a.method a.layer a.lat a.lon a.second

pub returns-in_err-look : goal.returns-in_err-look
returns-in_err-look c =
    let p = err_from_is_err_and c.from_residual.result c.from_residual.ensures.1 in
    rw (p.1, p.2) (barred_answers (q (goal.at.returns-in_err-look c).Start) _ (c.in_err-look.ensures c.args.layer c.args.lat c.args.lon c.args.second))

pub value_at-requires : goal.value_at-requires
value_at-requires c = rw c.shape_of.ensures (refl, (full c.args.texts c.args.descriptions.now, c.in_ok-look.ensures c.args.layer _ _ c.args.second))

pub returns : goal.returns
returns c =
    let v = rw (to_z-of_z c.ranges.lat, to_z-of_z c.ranges.lon, c.shape_of.ensures) at c.value_at.ensures in
    let o = c.in_ok-look.ensures c.args.layer c.args.lat c.args.lon c.args.second in
    open_answers (q (goal.at.returns c).Start) o _ (v (full c.args.texts c.args.descriptions.now) o)
