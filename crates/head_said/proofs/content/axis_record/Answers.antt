use mathlib.Core.Path.{◌≡◌, refl, sym, ◌∙◌}
use mir.Syntax.{w32}
use mir.Val.{to_z, of_z}
use borrow.Author.Rules.{rules}
use Rattle.std.proofs.lemmas.Result.{err_from_is_err_and}
use Rattle.reading.specs.Fields.{blank_to}
use Rattle.maps_records.proofs.RecordLaws.{blank_fine}
use Rattle.head_said.proofs.RecordLaws.{axis_is, blank_no}
use Rattle.head_said.proofs.content.axis_record.Goals as goal

pub returns-in_err-blank : goal.returns-in_err-blank
returns-in_err-blank c =
    let p = err_from_is_err_and c.from_residual.result c.from_residual.ensures.1 in
    rw (p.1, p.2, axis_is _ c.requires) (blank_no _ _ c.blank.result _ c.blank.ensures c.in_err-blank.was)

pub returns-in-Err : goal.returns-in-Err
returns-in-Err c =
    let n = blank_fine (blank_to c.args.line.now 0 2) _ c.blank.result c.blank.ensures c.in_ok-blank.was in
    rw (axis_is _ c.requires, n, sym c.three_numbers.ensures ∙ c.in-Err.is) refl

pub returns-in_err-blank-2 : goal.returns-in_err-blank-2
returns-in_err-blank-2 c =
    let n = blank_fine (blank_to c.args.line.now 0 2) _ c.blank.result c.blank.ensures c.in_ok-blank.was in
    let p = err_from_is_err_and c.from_residual-in_err-blank-2.result c.from_residual-in_err-blank-2.ensures.1 in
    rw (p.1, p.2, axis_is _ c.requires, n, sym c.three_numbers.ensures ∙ c.in-Ok.is) (blank_no _ _ c.blank-2.result _ c.blank-2.ensures c.in_err-blank-2.was)

pub returns : goal.returns
returns c =
    let n = blank_fine (blank_to c.args.line.now 0 2) _ c.blank.result c.blank.ensures c.in_ok-blank.was in
    let m = blank_fine (blank_to c.args.line.now 20 60) _ c.blank-2.result c.blank-2.ensures c.in_ok-blank-2.was in
    let x : to_z w32 (of_z w32 c.in-Ok.three.0) ≡ c.in-Ok.three.0 = search rules in
    let y : to_z w32 (of_z w32 c.in-Ok.three.1) ≡ c.in-Ok.three.1 = search rules in
    let z : to_z w32 (of_z w32 c.in-Ok.three.2) ≡ c.in-Ok.three.2 = search rules in
    rw (axis_is _ c.requires, n, sym c.three_numbers.ensures ∙ c.in-Ok.is, m, x, y, z) refl
