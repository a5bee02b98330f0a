-- `ask::sun::cell_at` meets its contract.
use mathlib.Core.Path.{◌≡◌, ap, ◌∙◌}
use lib.IntN.{ℤ}
use mir.Syntax.{w64}
use mir.Val.{to_z, of_z}
use mir.Facts.{to_z-of_z}
use Rattle.ask.specs.Sun.{lon_at}
use Rattle.ask.proofs.sun.cell_at.Goals as goal

pub returns : goal.returns
returns c =
    let a = c.args in
    let l : to_z w64 (of_z w64 c.lon_of.result) ≡ lon_at a.method a.lon a.second a.epoch =
    to_z-of_z {w = w64} (record { sfits = c.lon_of.type_inv }) ∙ c.lon_of.ensures ∙ ap (λ (z : ℤ). lon_at a.method z a.second a.epoch) (to_z-of_z c.ranges.lon) in
    rw (l, c.unit_of.ensures, to_z-of_z c.ranges.lat) at c.cell_of.ensures
