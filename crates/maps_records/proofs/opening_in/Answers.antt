-- `maps_records::opening_in` meets its contract.
use mathlib.Core.Path.{◌∙◌}
use Rattle.std.proofs.lemmas.Result.{err_from_is_err_and}
use Rattle.reading.specs.Fields.{blank_to}
use Rattle.maps_records.proofs.RecordLaws.{opening_wrong, opening_on, blank_fine, blank_wrong}
use Rattle.maps_records.proofs.opening_in.Goals as goal

pub returns-in_err-blank : goal.returns-in_err-blank
returns-in_err-blank c =
    let w = blank_wrong (blank_to c.args.line.now 0 2) _ c.blank.result c.blank.ensures c.in_err-blank.was in
    let p = err_from_is_err_and c.from_residual.result c.from_residual.ensures.1 in
    rw (p.1, p.2, w.1.1) (opening_wrong c.args.line.now c.requires w.1.0)

pub returns : goal.returns
returns c =
    let n = blank_fine (blank_to c.args.line.now 0 2) _ c.blank.result c.blank.ensures c.in_ok-blank.was in
    c.numbers_in.ensures ∙ opening_on c.args.line.now c.requires n
