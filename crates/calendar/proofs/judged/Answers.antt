-- `calendar::judged` meets its contract.
use mathlib.Core.Path.{◌≡◌, sym, ap, ◌∙◌}
use Rattle.std.specs.Prelude.{Option, Some, None, Ok, Err}
use Rattle.calendar.specs.declared.Field.{Field}
use Rattle.calendar.specs.Calendar.{told_checked, checked}
use Rattle.calendar.specs.Inner.{second_of, dated_of, taken_as}
use Rattle.calendar.proofs.FieldLaws.{date_right, dated_by}
use Rattle.calendar.specs.declared.Epoch.{Epoch}
use Rattle.calendar.proofs.judged.Goals as goal

-- by the first wrong field
known : (e : Epoch) (w r : Option Field) → told_checked w ≡ checked e → w ≡ r → dated_of e ≡ taken_as (second_of e) (told_checked r)
known e w r h i = dated_by e ∙ ap (taken_as (second_of e)) (sym h ∙ ap told_checked i)

pub second_of-requires : goal.second_of-requires
second_of-requires c = date_right _ (sym c.first_wrong.ensures ∙ ap told_checked c.in-None.is)

pub returns-in-None : goal.returns-in-None
returns-in-None c = sym (known c.args.e c.first_wrong.result None c.first_wrong.ensures c.in-None.is ∙ ap Ok (sym c.second_of.ensures))

pub returns-in-Some : goal.returns-in-Some
returns-in-Some c = sym (known c.args.e c.first_wrong.result (Some c.in-Some.f) c.first_wrong.ensures c.in-Some.is ∙ ap Err (sym c.column.ensures))
