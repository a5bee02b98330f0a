-- `maps_records::numbers_in` meets its contract.
use mathlib.Core.Path.{◌≡◌, sym, ◌∙◌}
use mir.Syntax.{w32}
use mir.Val.{to_z, of_z}
use borrow.Author.Rules.{rules}
use Rattle.std.proofs.lemmas.Result.{err_from_is_err_and}
use Rattle.forms.proofs.Options.{was_some, was_none}
use Rattle.reading.specs.Fields.{blank_to}
use Rattle.maps_records.proofs.RecordLaws.{blank_fine, blank_wrong, five_no_step, five_no_height, five_odd, five_fine}
use Rattle.maps_records.proofs.numbers_in.Goals as goal

pub returns-in_err-step : goal.returns-in_err-step
returns-in_err-step c =
    let n = was_none c.tenths_at.result _ c.ok_or.result c.ok_or.ensures.value c.in_err-step.was in
    let p = err_from_is_err_and c.from_residual.result c.from_residual.ensures.1 in
    rw (p.1, p.2, n.1, c.ill_formed-2.ensures) (five_no_step _ _ _ _ (sym c.three_numbers.ensures ∙ c.in-Ok.is) (sym c.tenths_at.ensures ∙ n.0))

pub returns-in_err-height : goal.returns-in_err-height
returns-in_err-height c =
    let s = was_some c.tenths_at.result _ c.ok_or.result c.ok_or.ensures.value c.in_ok-step.was in
    let n = was_none c.tenths_at-2.result _ c.ok_or-2.result c.ok_or-2.ensures.value c.in_err-height.was in
    let p = err_from_is_err_and c.from_residual-in_err-height.result c.from_residual-in_err-height.ensures.1 in
    rw (p.1, p.2, n.1, c.ill_formed-3.ensures) (five_no_height _ _ _ _ (sym c.three_numbers.ensures ∙ c.in-Ok.is) (sym c.tenths_at.ensures ∙ s) (sym c.tenths_at-2.ensures ∙ n.0))

pub returns-in_err-blank : goal.returns-in_err-blank
returns-in_err-blank c =
    let s = was_some c.tenths_at.result _ c.ok_or.result c.ok_or.ensures.value c.in_ok-step.was in
    let h = was_some c.tenths_at-2.result _ c.ok_or-2.result c.ok_or-2.ensures.value c.in_ok-height.was in
    let w = blank_wrong (blank_to c.args.line.now 32 60) _ c.blank.result c.blank.ensures c.in_err-blank.was in
    let p = err_from_is_err_and c.from_residual-in_err-blank.result c.from_residual-in_err-blank.ensures.1 in
    rw (p.1, p.2, w.1.1) (five_odd _ _ _ _ (sym c.three_numbers.ensures ∙ c.in-Ok.is) (sym c.tenths_at.ensures ∙ s) (sym c.tenths_at-2.ensures ∙ h) w.1.0)

pub returns : goal.returns
returns c =
    let s = was_some c.tenths_at.result _ c.ok_or.result c.ok_or.ensures.value c.in_ok-step.was in
    let h = was_some c.tenths_at-2.result _ c.ok_or-2.result c.ok_or-2.ensures.value c.in_ok-height.was in
    let n = blank_fine (blank_to c.args.line.now 32 60) _ c.blank.result c.blank.ensures c.in_ok-blank.was in
    let a : to_z w32 (of_z w32 c.in-Ok.three.0) ≡ c.in-Ok.three.0 = search rules in
    let b : to_z w32 (of_z w32 c.in-Ok.three.1) ≡ c.in-Ok.three.1 = search rules in
    let d : to_z w32 (of_z w32 c.in-Ok.three.2) ≡ c.in-Ok.three.2 = search rules in
    let e : to_z w32 (of_z w32 c.in_ok-step.step) ≡ c.in_ok-step.step = search rules in
    let f : to_z w32 (of_z w32 c.in_ok-height.height) ≡ c.in_ok-height.height = search rules in
    rw (a, b, d, e, f) (five_fine _ _ _ _ (sym c.three_numbers.ensures ∙ c.in-Ok.is) (sym c.tenths_at.ensures ∙ s) (sym c.tenths_at-2.ensures ∙ h) n)
