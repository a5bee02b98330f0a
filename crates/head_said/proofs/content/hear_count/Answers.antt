use mathlib.Core.Path.{◌≡◌, ◌∙◌}
use mir.Syntax.{w32}
use mir.Val.{to_z, of_z}
use borrow.Author.Rules.{rules}
use Rattle.std.proofs.lemmas.Result.{err_from_is_err_and}
use Rattle.head_said.proofs.RecordLaws.{ranged_on, ranged_no, count_says}
use Rattle.head_said.proofs.content.hear_count.Goals as goal

pub returns-in_err-number : goal.returns-in_err-number
returns-in_err-number c =
    let p = err_from_is_err_and c.from_residual.result c.from_residual.ensures.1 in
    rw (p.1, p.2) (ranged_no c.args.low c.args.high c.one_number.result _ c.one_number.ensures _ c.in_err-number.was ∙ count_says _ _ _)

pub returns : goal.returns
returns c =
    let z : to_z w32 (of_z w32 c.in_ok-number.number) ≡ c.in_ok-number.number = search rules in
    rw z at c.ranged.ensures ∙ ranged_on c.args.low c.args.high c.one_number.result _ c.one_number.ensures _ c.in_ok-number.was ∙ count_says _ _ _
