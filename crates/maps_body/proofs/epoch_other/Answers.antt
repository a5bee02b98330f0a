use mathlib.Core.Path.{◌≡◌, sym, ap, ◌∙◌}
use native.Mathlib.Omega.{arith}
use borrow.Author.Tests.{not-true, not-false}
use Rattle.std.specs.Prelude.{Ok, Err}
use Rattle.layout.specs.Text.{pad}
use Rattle.maps_bounds.specs.Steps.{force_of}
use Rattle.maps_bounds.proofs.StepLaws.{stops, halts, stills}
use Rattle.maps_body.proofs.InsideLaws.{again_late, again_bad, again_not, again_fine}
use Rattle.maps_body.proofs.epoch_other.Goals as goal

pub returns-then-not-this : goal.returns-then-not-this
returns-then-not-this c =
    let a = c.args in
    let es = a.epochs.now in
    stops es (again_late a.this (force_of a.past es) (pad a.line.now) (not-true _ c.if-not-this.true))

pub returns-in_err-t : goal.returns-in_err-t
returns-in_err-t c =
    let a = c.args in
    let es = a.epochs.now in
    halts es _ c.from_residual.ensures (again_bad a.this (force_of a.past es) (pad a.line.now) (not-false _ c.if-not-this.false) (sym c.in_err-t.ensures))

pub returns-then-t-epoch_of : goal.returns-then-t-epoch_of
returns-then-t-epoch_of c =
    let a = c.args in
    let es = a.epochs.now in
    ap Err c.disagrees.ensures
    ∙ stops es (again_not a.this (force_of a.past es) (pad a.line.now) (not-false _ c.if-not-this.false) _ (sym c.in_ok-t.ensures) (λ e. c.if-t-epoch_of.true (e ∙ sym c.epoch_of.ensures)))

pub returns : goal.returns
returns c =
    let a = c.args in
    let es = a.epochs.now in
    let t : c.in_ok-t.t ≡ c.epoch_of.result = omega (arith, c.if-t-epoch_of.false) in
    ap Ok c.still.ensures
    ∙ stills es _ a.past (again_fine a.this (force_of a.past es) (pad a.line.now) (not-false _ c.if-not-this.false) _ (sym c.in_ok-t.ensures) (t ∙ c.epoch_of.ensures))
