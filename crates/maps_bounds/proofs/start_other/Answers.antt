use mathlib.Core.Path.{◌≡◌, sym, ap, ◌∙◌}
use native.Mathlib.Omega.{arith}
use mir.Syntax.{w32}
use mir.Val.{to_z, of_z}
use borrow.Author.Rules.{rules}
use Rattle.std.specs.Prelude.{Ok, Err}
use Rattle.kit.specs.Integer.{up}
use Rattle.layout.specs.Text.{pad}
use Rattle.maps_bounds.specs.Steps.{force_of}
use Rattle.maps_bounds.proofs.StepLaws.{stops, halts, stills, other_bad, other_low, other_high, other_fine, with_last_of}
use Rattle.maps_bounds.proofs.start_other.Goals as goal
use Rattle.maps_bounds.proofs.start_other.Goals.{then-i-last_of-via-then-i-last_of, then-i-last_of-via-else-i-last_of+then-epochs-i}

pub returns-in_err-one_number : goal.returns-in_err-one_number
returns-in_err-one_number c =
    let a = c.args in
    halts a.epochs.now _ c.from_residual.ensures (other_bad a.kind a.header (force_of a.past a.epochs.now) (pad a.line.now) (sym c.in_err-one_number.ensures))

pub returns-then-i-last_of : goal.returns-then-i-last_of
returns-then-i-last_of c =
    let a = c.args in
    let es = a.epochs.now in
    let z : to_z w32 (of_z w32 c.in_ok-one_number.field-0) ≡ c.in_ok-one_number.field-0 = search rules in
    let n : c.natural-i.result ≡ up c.in_ok-one_number.field-0 = rw z at c.natural-i.ensures in
    let l = c.last_of.ensures in
    ap Err c.disagrees.ensures
    ∙ stops es (elim c.then-i-last_of.branch [
      | then-i-last_of-via-then-i-last_of w ↦
          other_low a.kind a.header (force_of a.past es) (pad a.line.now) c.in_ok-one_number.field-0 (sym c.in_ok-one_number.ensures) (omega arith)
      | then-i-last_of-via-else-i-last_of+then-epochs-i w ↦
          other_high a.kind a.header (force_of a.past es) (pad a.line.now) c.in_ok-one_number.field-0 (sym c.in_ok-one_number.ensures) (omega arith)
    ])

pub returns : goal.returns
returns c =
    let a = c.args in
    let es = a.epochs.now in
    let z : to_z w32 (of_z w32 c.in_ok-one_number.field-0) ≡ c.in_ok-one_number.field-0 = search rules in
    let n : c.natural-i.result ≡ up c.in_ok-one_number.field-0 = rw z at c.natural-i.ensures in
    let l = c.last_of.ensures in
    let f = other_fine a.kind a.header (force_of a.past es) (pad a.line.now) c.in_ok-one_number.field-0 (sym c.in_ok-one_number.ensures) (omega (arith, c.if-i-last_of.false)) (omega (arith, c.if-epochs-i.false)) in
    ap Ok (rw (c.with_last.ensures, c.per_map.ensures, n) at c.still.ensures)
    ∙ stills es _ _ (rw with_last_of at f)
