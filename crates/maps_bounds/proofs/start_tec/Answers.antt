use mathlib.Core.Path.{◌≡◌, sym, ap, ◌∙◌}
use native.Mathlib.Omega.{arith}
use mir.Syntax.{w32}
use mir.Val.{to_z, of_z}
use borrow.Author.Rules.{rules}
use Rattle.std.specs.Prelude.{Ok, Err}
use Rattle.kit.specs.Integer.{up}
use Rattle.layout.specs.Text.{pad}
use Rattle.reading.specs.declared.Place.TheVariants.{Early}
use Rattle.maps_bounds.specs.Steps.{force_of}
use Rattle.maps_bounds.proofs.StepLaws.{stops, halts, stills, tec_bad, tec_number, tec_many, tec_fine}
use Rattle.maps_bounds.proofs.start_tec.Goals as goal
use Rattle.maps_bounds.proofs.start_tec.Goals.{then-number-before-via-then-number-before, then-number-before-via-else-number-before+then-header-before}

pub returns-in_err-one_number : goal.returns-in_err-one_number
returns-in_err-one_number c =
    let a = c.args in
    halts a.epochs.now _ c.from_residual.ensures (tec_bad a.header (force_of a.past a.epochs.now) (pad a.line.now) (sym c.in_err-one_number.ensures))

pub returns-then-number-before : goal.returns-then-number-before
returns-then-number-before c =
    let a = c.args in
    let es = a.epochs.now in
    let z : to_z w32 (of_z w32 c.in_ok-one_number.field-0) ≡ c.in_ok-one_number.field-0 = search rules in
    let n : c.natural-number.result ≡ up c.in_ok-one_number.field-0 = rw z at c.natural-number.ensures in
    ap Err c.disagrees.ensures
    ∙ stops es (elim c.then-number-before.branch [
      | then-number-before-via-then-number-before w ↦
          tec_number a.header (force_of a.past es) (pad a.line.now) c.in_ok-one_number.field-0 (sym c.in_ok-one_number.ensures) (λ u. omega arith)
      | then-number-before-via-else-number-before+then-header-before w ↦
          tec_many a.header (force_of a.past es) (pad a.line.now) c.in_ok-one_number.field-0 (sym c.in_ok-one_number.ensures) (omega arith)
    ])

pub returns : goal.returns
returns c =
    let a = c.args in
    let es = a.epochs.now in
    let z : to_z w32 (of_z w32 c.in_ok-one_number.field-0) ≡ c.in_ok-one_number.field-0 = search rules in
    let n : c.natural-number.result ≡ up c.in_ok-one_number.field-0 = rw z at c.natural-number.ensures in
    ap Ok c.still.ensures
    ∙ stills es Early a.past (tec_fine a.header (force_of a.past es) (pad a.line.now) c.in_ok-one_number.field-0 (sym c.in_ok-one_number.ensures) (omega arith) (omega arith))
