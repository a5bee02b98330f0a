-- `maps_records::epoch_in` meets its contract.
use mathlib.Core.Path.{◌≡◌, sym, ◌∙◌}
use mir.Syntax.{w32}
use mir.Val.{to_z, of_z}
use borrow.Author.Rules.{rules}
use Rattle.std.proofs.lemmas.Result.{err_from_is_err_and}
use Rattle.reading.specs.Fields.{blank_to}
use Rattle.maps_records.proofs.RecordLaws.{date_wrong, date_odd, date_fine, blank_fine, blank_wrong}
use Rattle.maps_records.proofs.epoch_in.Goals as goal

pub returns-in-Err : goal.returns-in-Err
returns-in-Err c = rw c.ill_formed.ensures (date_wrong c.args.line.now c.requires (sym c.six_numbers.ensures ∙ c.in-Err.is))

pub returns-in_err-blank-in-Ok : goal.returns-in_err-blank-in-Ok
returns-in_err-blank-in-Ok c =
    let w = blank_wrong (blank_to c.args.line.now 36 60) _ c.blank.result c.blank.ensures c.in_err-blank-in-Ok.was in
    let p = err_from_is_err_and c.from_residual.result c.from_residual.ensures.1 in
    rw (p.1, p.2, w.1.1) (date_odd c.args.line.now c.requires (sym c.six_numbers.ensures ∙ c.in-Ok.is) w.1.0)

pub returns-in_ok-blank-in-Ok : goal.returns-in_ok-blank-in-Ok
returns-in_ok-blank-in-Ok c =
    let n = blank_fine (blank_to c.args.line.now 36 60) _ c.blank.result c.blank.ensures c.in_ok-blank-in-Ok.was in
    let a : to_z w32 (of_z w32 c.in-Ok.year) ≡ c.in-Ok.year = search rules in
    let b : to_z w32 (of_z w32 c.in-Ok.month) ≡ c.in-Ok.month = search rules in
    let d : to_z w32 (of_z w32 c.in-Ok.day) ≡ c.in-Ok.day = search rules in
    let e : to_z w32 (of_z w32 c.in-Ok.hour) ≡ c.in-Ok.hour = search rules in
    let f : to_z w32 (of_z w32 c.in-Ok.minute) ≡ c.in-Ok.minute = search rules in
    let h : to_z w32 (of_z w32 c.in-Ok.second) ≡ c.in-Ok.second = search rules in
    rw (a, b, d, e, f, h) at c.second_of.ensures
    ∙ date_fine c.args.line.now c.requires (sym c.six_numbers.ensures ∙ c.in-Ok.is) n
