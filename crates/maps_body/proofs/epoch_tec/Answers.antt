use mathlib.Core.Bool.{not}
use mathlib.Core.Path.{sym, ap, ◌∙◌}
use native.Mathlib.Numerals.{add-one}
use borrow.Author.Tests.{not-true, not-false}
use Rattle.std.specs.Prelude.{Err}
use Rattle.layout.specs.Text.{pad}
use Rattle.maps_bounds.specs.Steps.{force_of}
use Rattle.maps_bounds.proofs.StepLaws.{stops, halts}
use Rattle.maps_body.proofs.InsideLaws.{remembers, epoch_bad, epoch_late, epoch_fine}
use Rattle.maps_body.proofs.epoch_tec.Goals as goal

pub returns-in_err-t : goal.returns-in_err-t
returns-in_err-t c =
    let a = c.args in
    halts a.epochs.now _ c.from_residual.ensures (epoch_bad a.header (force_of a.past a.epochs.now) (pad a.line.now) (sym c.in_err-t.ensures))

pub returns-then-not-in_time : goal.returns-then-not-in_time
returns-then-not-in_time c =
    let a = c.args in
    let es = a.epochs.now in
    ap Err c.disagrees.ensures
    ∙ stops es (epoch_late a.header (force_of a.past es) (pad a.line.now) _ (sym c.in_ok-t.ensures) (sym c.in_time.ensures ∙ not-true _ (ap not c.if-not-in_time.true)))

pub returns : goal.returns
returns c =
    let a = c.args in
    let es = a.epochs.now in
    rw (add-one, c.per_map.ensures) (remembers es _ a.past _ (epoch_fine a.header (force_of a.past es) (pad a.line.now) _ (sym c.in_ok-t.ensures) (sym c.in_time.ensures ∙ not-false _ (ap not c.if-not-in_time.false))))
