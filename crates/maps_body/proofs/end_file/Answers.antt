use mathlib.Core.Path.{sym, ap, ◌∙◌}
use native.Mathlib.Omega.{arith}
use Rattle.std.specs.Prelude.{Ok}
use Rattle.layout.specs.Text.{pad}
use Rattle.reading.specs.Fields.{blank_to}
use Rattle.reading.specs.declared.Place.TheVariants.{Ended}
use Rattle.maps_bounds.specs.Steps.{force_of}
use Rattle.maps_records.proofs.RecordLaws.{nothing_wrong, nothing_fine}
use Rattle.maps_bounds.proofs.StepLaws.{stops, stills}
use Rattle.maps_body.proofs.InsideLaws.{file_bad, file_missing, file_fine}
use Rattle.maps_body.proofs.end_file.Goals as goal

pub returns-in-Some : goal.returns-in-Some
unfolding blank_to
returns-in-Some c =
    let a = c.args in
    let es = a.epochs.now in
    stops es (file_bad a.header (force_of a.past es) (pad a.line.now) (nothing_wrong a.line.now c.requires (sym c.in-Some.ensures)))

pub returns-then-epochs-header : goal.returns-then-epochs-header
unfolding blank_to
returns-then-epochs-header c =
    let a = c.args in
    let es = a.epochs.now in
    stops es (file_missing a.header (force_of a.past es) (pad a.line.now) (nothing_fine a.line.now c.requires (sym c.in_default.ensures)) c.if-epochs-header.true)

pub returns : goal.returns
unfolding blank_to
returns c =
    let a = c.args in
    let es = a.epochs.now in
    ap Ok c.still.ensures
    ∙ stills es Ended a.past (file_fine a.header (force_of a.past es) (pad a.line.now) (nothing_fine a.line.now c.requires (sym c.in_default.ensures)) (omega (arith, c.if-epochs-header.false)))
