use Rattle.std.proofs.lemmas.Result.{err_from_is_err_and}
use Rattle.reading.specs.Fields.{blank_to}
use Rattle.maps_records.proofs.RecordLaws.{blank_fine}
use Rattle.head_said.proofs.RecordLaws.{system_is, blank_no}
use Rattle.head_said.proofs.content.system_record.Goals as goal

pub returns-in_err-blank : goal.returns-in_err-blank
returns-in_err-blank c =
    let p = err_from_is_err_and c.from_residual.result c.from_residual.ensures.1 in
    rw (p.1, p.2, system_is _ c.requires) (blank_no _ _ c.blank.result _ c.blank.ensures c.in_err-blank.was)

pub returns : goal.returns
returns c =
    let n = blank_fine (blank_to c.args.line.now 0 5) _ c.blank.result c.blank.ensures c.in_ok-blank.was in
    rw (system_is _ c.requires, n) c.counts_after.ensures
