use mathlib.Core.Bool.{not}
use mathlib.Core.Path.{◌≡◌, sym, ap, ◌∙◌}
use native.Mathlib.Omega.{arith}
use mir.Syntax.{w32}
use mir.Val.{to_z, of_z}
use borrow.Author.Rules.{rules}
use borrow.Author.Tests.{not-true, not-false}
use Rattle.std.specs.Prelude.{Ok, Err}
use Rattle.layout.specs.Text.{pad}
use Rattle.reading.specs.declared.Place.TheVariants.{Between}
use Rattle.maps_bounds.specs.Steps.{force_of}
use Rattle.maps_bounds.proofs.StepLaws.{stops, halts, stills, other_kind, one_kind, end_kind, end_bad, end_left, end_number, end_fine}
use Rattle.maps_bounds.proofs.end_map.Goals as goal

pub returns-then-ne : goal.returns-then-ne
returns-then-ne c = λ h es. stops es (end_kind (force_of c.args.past es) c.args.kind (pad c.args.line.now) c.args.this (other_kind c.if-ne.ensures))

pub returns-in_err-number : goal.returns-in_err-number
returns-in_err-number c =
    λ h es. halts es _ c.from_residual.ensures (end_bad (force_of c.args.past es) c.args.kind (pad c.args.line.now) c.args.this (one_kind c.if-ne.ensures) (sym c.in_err-number.ensures))

pub returns-then-this-ne0 : goal.returns-then-this-ne0
returns-then-this-ne0 c =
    λ h es. let a = c.args in
    stops es (end_left (force_of a.past es) a.kind (pad a.line.now) a.this (one_kind c.if-ne.ensures) _ (sym c.in_ok-number.ensures) c.if-this-ne0.true)

pub returns-then-not-counts : goal.returns-then-not-counts
returns-then-not-counts c =
    λ h es. let a = c.args in
    let z : to_z w32 (of_z w32 c.in_ok-number.number) ≡ c.in_ok-number.number = search rules in
    ap Err c.disagrees.ensures
    ∙ stops es (end_number (force_of a.past es) a.kind (pad a.line.now) a.this (one_kind c.if-ne.ensures) _ (sym c.in_ok-number.ensures) (omega arith)
    (rw z at (sym c.counts.ensures) ∙ not-true _ (ap not c.if-not-counts.true)))

pub returns : goal.returns
returns c =
    λ h es. let a = c.args in
    let z : to_z w32 (of_z w32 c.in_ok-number.number) ≡ c.in_ok-number.number = search rules in
    ap Ok c.still.ensures
    ∙ stills es Between a.past (end_fine (force_of a.past es) a.kind (pad a.line.now) a.this (one_kind c.if-ne.ensures) _ (sym c.in_ok-number.ensures) (omega arith)
    (rw z at (sym c.counts.ensures) ∙ not-false _ (ap not c.if-not-counts.false)))
