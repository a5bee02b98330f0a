use mathlib.Core.Path.{ap}
use Rattle.std.proofs.lemmas.Result.{err_from_is_err_and}
use Rattle.kit.specs.Answer.{ok, bind}
use Rattle.layout.specs.Layout.{Slots, mode}
use Rattle.reading.specs.Fields.{blank_to}
use Rattle.maps_records.proofs.RecordLaws.{blank_fine}
use Rattle.head_said.proofs.RecordLaws.{blank_no, mapping_says}
use Rattle.head_state.specs.Got.{kept, went}
use Rattle.head_state.proofs.GotLaws.{mapping_kept}
use borrow.Author.Rules.{rules}
use Rattle.head_state.proofs.keep_mapping.Goals as goal

pub returns-in_err-blank : goal.returns-in_err-blank
unfolding kept bind
returns-in_err-blank c =
    let p = err_from_is_err_and c.from_residual.result c.from_residual.ensures.1 in
    rw (p.1, p.2, ← (mapping_says _ c.requires)) (ap (kept c.args.s.now 5) (blank_no _ _ c.blank.result _ c.blank.ensures c.in_err-blank.was))

pub returns-in_err-blank-2 : goal.returns-in_err-blank-2
unfolding kept bind
returns-in_err-blank-2 c =
    let n = blank_fine (blank_to c.args.line.now 0 2) _ c.blank.result c.blank.ensures c.in_ok-blank.was in
    let p = err_from_is_err_and c.from_residual-in_err-blank-2.result c.from_residual-in_err-blank-2.ensures.1 in
    rw (p.1, p.2, ← (mapping_says _ c.requires), n) (ap (kept c.args.s.now 5) (blank_no _ _ c.blank-2.result _ c.blank-2.ensures c.in_err-blank-2.was))

pub returns : goal.returns
unfolding kept bind
returns c =
    let s = c.args.s.now in
    let n = blank_fine (blank_to c.args.line.now 0 2) _ c.blank.result c.blank.ensures c.in_ok-blank.was in
    let m = blank_fine (blank_to c.args.line.now 6 60) _ c.blank-2.result c.blank-2.ensures c.in_ok-blank-2.was in
    rw (← (mapping_says _ c.requires), n, m, c.text-s.ensures)
    (ap (λ (z : Slots). ok (went (mode s.aux) s.exponent z s.descriptions)) (mapping_kept s (search rules) _))
