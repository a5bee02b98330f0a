-- `maps_records::alone` meets its contract.
use mathlib.Core.Path.{◌≡◌}
use mir.Syntax.{w32}
use mir.Val.{to_z, of_z}
use borrow.Author.Rules.{rules}
use Rattle.std.proofs.lemmas.Result.{err_from_is_err_and}
use Rattle.kit.specs.Answer.{amap}
use Rattle.forms.proofs.Options.{was_some, was_none}
use Rattle.reading.specs.Fields.{number, blank_to}
use Rattle.maps_records.proofs.RecordLaws.{blank_fine, blank_wrong, one_odd, one_fine}
use Rattle.maps_records.proofs.alone.Goals as goal

pub returns-in_err-x : goal.returns-in_err-x
unfolding number amap
returns-in_err-x c =
    let n = was_none c.args.z _ c.ok_or.result c.ok_or.ensures.value c.in_err-x.was in
    let p = err_from_is_err_and c.from_residual.result c.from_residual.ensures.1 in
    rw (p.1, p.2, n.0, n.1, c.ill_formed.ensures)

pub returns-in_err-blank : goal.returns-in_err-blank
unfolding number amap
returns-in_err-blank c =
    let s = was_some c.args.z _ c.ok_or.result c.ok_or.ensures.value c.in_ok-x.was in
    let w = blank_wrong (blank_to c.args.line.now c.args.a c.args.e) _ c.blank.result c.blank.ensures c.in_err-blank.was in
    let p = err_from_is_err_and c.from_residual-in_err-blank.result c.from_residual-in_err-blank.ensures.1 in
    rw (p.1, p.2, w.1.1) (one_odd s w.1.0)

pub returns : goal.returns
unfolding number amap
returns c =
    let s = was_some c.args.z _ c.ok_or.result c.ok_or.ensures.value c.in_ok-x.was in
    let n = blank_fine (blank_to c.args.line.now c.args.a c.args.e) _ c.blank.result c.blank.ensures c.in_ok-blank.was in
    let x : to_z w32 (of_z w32 c.in_ok-x.x) ≡ c.in_ok-x.x = search rules in
    rw x (one_fine s n)
