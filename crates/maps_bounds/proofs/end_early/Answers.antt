use mathlib.Core.Path.{sym}
use Rattle.layout.specs.Text.{pad}
use Rattle.maps_bounds.specs.Steps.{force_of}
use Rattle.maps_bounds.proofs.StepLaws.{stops, halts, other_kind, one_kind, early_kind, early_bad, early_missing}
use Rattle.maps_bounds.proofs.end_early.Goals as goal

pub returns-then-ne : goal.returns-then-ne
returns-then-ne c = λ h es. stops es (early_kind (force_of c.args.past es) c.args.kind (pad c.args.line.now) h (other_kind c.if-ne.ensures))

pub returns-in_err-one_number : goal.returns-in_err-one_number
returns-in_err-one_number c =
    λ h es. halts es _ c.from_residual.ensures (early_bad (force_of c.args.past es) c.args.kind (pad c.args.line.now) h (one_kind c.if-ne.ensures) (sym c.in_err-one_number.ensures))

pub returns : goal.returns
returns c =
    λ h es. stops es (early_missing (force_of c.args.past es) c.args.kind (pad c.args.line.now) h (one_kind c.if-ne.ensures) (sym c.in_ok-one_number.ensures))
