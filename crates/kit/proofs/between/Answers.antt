-- `kit::between` meets its contract.
use mathlib.Core.Path.{sym, ap, ◌∙◌}
use mathlib.Core.Bool.{Bool, ◌&&◌}
use lib.Signed.{le_z}
use mir.Facts.{to_z-of_z}
use Rattle.kit.proofs.Signed.{both}
use Rattle.kit.proofs.between.Goals as goal

pub returns-then-low-x : goal.returns-then-low-x
returns-then-low-x c =
    let a = c.args in
    rw (to_z-of_z c.ranges.x, to_z-of_z c.ranges.high) (ap (λ (t : Bool). t && le_z a.x a.high) (sym (rw (to_z-of_z c.ranges.x, to_z-of_z c.ranges.low) at c.if-low-x.true)) ∙ both a.low a.high a.x)

pub returns-else-low-x : goal.returns-else-low-x
returns-else-low-x c =
    let a = c.args in
    let e = rw (to_z-of_z c.ranges.x, to_z-of_z c.ranges.low) at c.if-low-x.false in
    rw (to_z-of_z c.ranges.x, to_z-of_z c.ranges.low) (e ∙ ap (λ (t : Bool). t && le_z a.x a.high) (sym e) ∙ both a.low a.high a.x)
