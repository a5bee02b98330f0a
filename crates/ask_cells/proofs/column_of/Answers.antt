-- `ask_cells::column_of` meets its contract.
use borrow.Author.Rules.{rules}
use mathlib.Core.Path.{◌≡◌, ap₂, ◌∙◌}
use lib.IntN.{ℤ, pos, ◌-ℤ◌, ◌*ℤ◌}
use mir.Syntax.{w32, w64}
use mir.Val.{to_z, of_z}
use mir.Facts.{to_z-of_z}
use Rattle.ask_cells.proofs.PlaceLaws.{column_found}
use Rattle.ask_cells.proofs.column_of.Goals as goal

pub returns : goal.returns
returns c =
    let a = c.args in
    let e : to_z w32 (of_z w32 a.a.first) ≡ a.a.first = search rules in
    let o : to_z w64 (of_z w64 c.offset.result) ≡ a.lon -ℤ (pos a.unit *ℤ a.a.first) =
    (search rules) ∙ c.offset.ensures ∙ ap₂ (λ (x y : ℤ). x -ℤ (pos a.unit *ℤ y)) (to_z-of_z c.ranges.lon) e in
    column_found a.unit a.a a.lon c.turned.result c.locate.result (rw o at c.turned.ensures) (rw (c.step_of.ensures, c.nodes.ensures, c.is_strip.ensures) at c.locate.ensures)
