use mathlib.Core.Path.{◌≡◌, refl, sym, ◌∙◌}
use mir.Syntax.{w32}
use mir.Val.{to_z, of_z}
use borrow.Author.Rules.{rules}
use Rattle.std.proofs.lemmas.Result.{err_from_is_err_and}
use Rattle.forms.proofs.Options.{was_some, was_none}
use Rattle.reading.specs.Fields.{number, blank_to}
use Rattle.maps_records.proofs.RecordLaws.{blank_fine}
use Rattle.head_said.proofs.RecordLaws.{blank_no}
use Rattle.head_said.proofs.content.counts_after.Goals as goal

pub returns-in_err-stations : goal.returns-in_err-stations
unfolding number
returns-in_err-stations c =
    let n = was_none c.int_at.result _ c.ok_or.result c.ok_or.ensures.value c.in_err-stations.was in
    let p = err_from_is_err_and c.from_residual.result c.from_residual.ensures.1 in
    rw (p.1, p.2, n.1, sym c.int_at.ensures ∙ n.0) refl

pub returns-in_err-satellites : goal.returns-in_err-satellites
unfolding number
returns-in_err-satellites c =
    let s = was_some c.int_at.result _ c.ok_or.result c.ok_or.ensures.value c.in_ok-stations.was in
    let n = was_none c.int_at-2.result _ c.ok_or-2.result c.ok_or-2.ensures.value c.in_err-satellites.was in
    let p = err_from_is_err_and c.from_residual-in_err-satellites.result c.from_residual-in_err-satellites.ensures.1 in
    rw (p.1, p.2, n.1, sym c.int_at.ensures ∙ s, sym c.int_at-2.ensures ∙ n.0) refl

pub returns-in_err-blank : goal.returns-in_err-blank
unfolding number
returns-in_err-blank c =
    let s = was_some c.int_at.result _ c.ok_or.result c.ok_or.ensures.value c.in_ok-stations.was in
    let t = was_some c.int_at-2.result _ c.ok_or-2.result c.ok_or-2.ensures.value c.in_ok-satellites.was in
    let p = err_from_is_err_and c.from_residual-in_err-blank.result c.from_residual-in_err-blank.ensures.1 in
    rw (p.1, p.2, sym c.int_at.ensures ∙ s, sym c.int_at-2.ensures ∙ t) (blank_no _ _ c.blank.result _ c.blank.ensures c.in_err-blank.was)

pub returns : goal.returns
unfolding number
returns c =
    let s = was_some c.int_at.result _ c.ok_or.result c.ok_or.ensures.value c.in_ok-stations.was in
    let t = was_some c.int_at-2.result _ c.ok_or-2.result c.ok_or-2.ensures.value c.in_ok-satellites.was in
    let n = blank_fine (blank_to c.args.line.now 18 60) _ c.blank.result c.blank.ensures c.in_ok-blank.was in
    let x : to_z w32 (of_z w32 c.in_ok-stations.stations) ≡ c.in_ok-stations.stations = search rules in
    let y : to_z w32 (of_z w32 c.in_ok-satellites.satellites) ≡ c.in_ok-satellites.satellites = search rules in
    rw (sym c.int_at.ensures ∙ s, sym c.int_at-2.ensures ∙ t, n, x, y) refl
