use mathlib.Core.Path.{◌≡◌, sym, ap, ◌∙◌}
use mir.Syntax.{w32}
use mir.Val.{to_z, of_z}
use borrow.Author.Rules.{rules}
use Rattle.std.specs.Prelude.{Ok}
use Rattle.layout.specs.Text.{pad}
use Rattle.maps_bounds.specs.Steps.{force_of}
use Rattle.maps_bounds.proofs.StepLaws.{stops, halts, stills, exponent_ended, exponent_bad, exponent_low, exponent_high, exponent_fine}
use Rattle.maps_bounds.proofs.on_exponent.Goals as goal
use Rattle.maps_bounds.proofs.on_exponent.Goals.{then-exponent-ltminus3-via-then-exponent-ltminus3, then-exponent-ltminus3-via-else-exponent-ltminus3+then-exponent-gt0}

pub returns-then-has_ended : goal.returns-then-has_ended
returns-then-has_ended c = λ h es. stops es (exponent_ended c.args.place _ _ (sym c.if-has_ended.ensures))

pub returns-in_err-exponent : goal.returns-in_err-exponent
returns-in_err-exponent c =
    λ h es. let a = c.args in
    halts es _ c.from_residual.ensures (exponent_bad a.place (force_of a.past es) (pad a.line.now) (sym c.if-has_ended.ensures) (sym c.in_err-exponent.ensures))

pub returns-then-exponent-ltminus3 : goal.returns-then-exponent-ltminus3
returns-then-exponent-ltminus3 c =
    λ h es. let a = c.args in
    let z : to_z w32 (of_z w32 c.in_ok-exponent.exponent) ≡ c.in_ok-exponent.exponent = search rules in
    stops es (elim c.then-exponent-ltminus3.branch [
      | then-exponent-ltminus3-via-then-exponent-ltminus3 w ↦
          exponent_low a.place (force_of a.past es) (pad a.line.now) (sym c.if-has_ended.ensures) c.in_ok-exponent.exponent (sym c.in_ok-exponent.ensures) (rw z at w.if-exponent-ltminus3.true)
      | then-exponent-ltminus3-via-else-exponent-ltminus3+then-exponent-gt0 w ↦
          exponent_high a.place (force_of a.past es) (pad a.line.now) (sym c.if-has_ended.ensures) c.in_ok-exponent.exponent (sym c.in_ok-exponent.ensures) (rw z at w.if-exponent-gt0.true)
    ])

pub returns : goal.returns
returns c =
    λ h es. let a = c.args in
    let z : to_z w32 (of_z w32 c.in_ok-exponent.exponent) ≡ c.in_ok-exponent.exponent = search rules in
    ap Ok (rw z at c.still.ensures)
    ∙ stills es a.place (record { exponent = c.in_ok-exponent.exponent; rms = a.past.rms; height = a.past.height })
    (exponent_fine a.place (force_of a.past es) (pad a.line.now) (sym c.if-has_ended.ensures) c.in_ok-exponent.exponent (sym c.in_ok-exponent.ensures)
    (rw z at c.if-exponent-ltminus3.false) (rw z at c.if-exponent-gt0.false))
