-- `calendar::take` meets its contract.
use mathlib.Core.Path.{sym, ap, ◌∙◌}
use lib.IntN.{pos}
use mir.Facts.{to_z-of_z}
use Rattle.calendar.specs.Calendar.{dated, told_taken}
use Rattle.calendar.specs.Inner.{clip}
use Rattle.calendar.proofs.FieldLaws.{dated_told, dated_clip}
use Rattle.calendar.proofs.take.Goals as goal

pub returns : goal.returns
returns c =
    let s = c.before.before.before.before.before.before.before in
    let year = c.natural.ensures ∙ ap clip (to_z-of_z s.ranges.year) in
    let month = c.natural-2.ensures ∙ ap clip (to_z-of_z s.ranges.month) in
    let day = c.natural-3.ensures ∙ ap clip (to_z-of_z s.ranges.day) in
    let hour = c.natural-4.ensures ∙ ap clip (to_z-of_z s.ranges.hour) in
    let minute = c.natural-5.ensures ∙ ap clip (to_z-of_z s.ranges.minute) in
    let second = c.natural-6.ensures ∙ ap clip (to_z-of_z s.ranges.second) in
    ap told_taken (c.judged.ensures ∙ (λ j. dated (pos (year j)) (pos (month j)) (pos (day j)) (pos (hour j)) (pos (minute j)) (pos (second j)))
    ∙ sym (dated_clip s.args.year s.args.month s.args.day s.args.hour s.args.minute s.args.second))
    ∙ dated_told s.args.year s.args.month s.args.day s.args.hour s.args.minute s.args.second
