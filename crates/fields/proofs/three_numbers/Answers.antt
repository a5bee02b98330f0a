-- `fields::three_numbers` meets its contract.
use mathlib.Core.Path.{◌≡◌, sym, ◌∙◌}
use mir.Syntax.{w32}
use mir.Val.{to_z, of_z}
use borrow.Author.Rules.{rules}
use Rattle.std.proofs.lemmas.Result.{err_from_is_err_and}
use Rattle.forms.specs.Rows.{three_at}
use Rattle.forms.proofs.Options.{was_some, was_none}
use Rattle.fields.proofs.three_numbers.Goals as goal

pub returns-in_err-x : goal.returns-in_err-x
unfolding three_at
returns-in_err-x c =
    let e0 = was_none c.number_at.result _ _ c.ok_or.ensures.value c.in_err-x.was in
    let p = err_from_is_err_and c.from_residual.result c.from_residual.ensures.1 in
    rw (p.1, p.2, sym c.number_at.ensures ∙ e0.0, ← e0.1)

pub returns-in_err-y : goal.returns-in_err-y
unfolding three_at
returns-in_err-y c =
    let e0 = was_some c.number_at.result _ _ c.ok_or.ensures.value c.in_ok-x.was in
    let e1 = was_none c.number_at-2.result _ _ c.ok_or-2.ensures.value c.in_err-y.was in
    let p = err_from_is_err_and c.from_residual-in_err-y.result c.from_residual-in_err-y.ensures.1 in
    rw (p.1, p.2, sym c.number_at.ensures ∙ e0, sym c.number_at-2.ensures ∙ e1.0, ← e1.1)

pub returns-in_err-z : goal.returns-in_err-z
unfolding three_at
returns-in_err-z c =
    let e0 = was_some c.number_at.result _ _ c.ok_or.ensures.value c.in_ok-x.was in
    let e1 = was_some c.number_at-2.result _ _ c.ok_or-2.ensures.value c.in_ok-y.was in
    let e2 = was_none c.number_at-3.result _ _ c.ok_or-3.ensures.value c.in_err-z.was in
    let p = err_from_is_err_and c.from_residual-in_err-z.result c.from_residual-in_err-z.ensures.1 in
    rw (p.1, p.2, sym c.number_at.ensures ∙ e0, sym c.number_at-2.ensures ∙ e1, sym c.number_at-3.ensures ∙ e2.0, ← e2.1)

pub returns : goal.returns
unfolding three_at
returns c =
    let e0 = was_some c.number_at.result _ _ c.ok_or.ensures.value c.in_ok-x.was in
    let e1 = was_some c.number_at-2.result _ _ c.ok_or-2.ensures.value c.in_ok-y.was in
    let e2 = was_some c.number_at-3.result _ _ c.ok_or-3.ensures.value c.in_ok-z.was in
    let x : to_z w32 (of_z w32 c.in_ok-x.x) ≡ c.in_ok-x.x = search rules in
    let y : to_z w32 (of_z w32 c.in_ok-y.y) ≡ c.in_ok-y.y = search rules in
    let z : to_z w32 (of_z w32 c.in_ok-z.z) ≡ c.in_ok-z.z = search rules in
    rw (sym c.number_at.ensures ∙ e0, sym c.number_at-2.ensures ∙ e1, sym c.number_at-3.ensures ∙ e2, x, y, z)
