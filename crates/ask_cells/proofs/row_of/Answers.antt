-- `ask_cells::row_of` meets its contract.
use borrow.Author.Rules.{rules}
use mathlib.Core.Path.{◌≡◌, ap₂, ◌∙◌}
use lib.IntN.{ℤ, pos, ◌-ℤ◌, ◌*ℤ◌}
use mir.Syntax.{w32, w64}
use mir.Val.{to_z, of_z, SFits}
use mir.Facts.{to_z-of_z, sfits_widen}
use Rattle.ask_cells.proofs.PlaceLaws.{row_found}
use Rattle.ask_cells.proofs.row_of.Goals as goal
use Rattle.ask_cells.proofs.row_of.Goals.{After-offset}

-- a number through both widths
wide : (z : ℤ) → SFits w32 z → to_z w64 (of_z w64 (to_z w32 (of_z w32 z))) ≡ z
wide z f = rw (to_z-of_z f) (to_z-of_z {w = w64} (sfits_widen (tt {0}) f))

off : (c : After-offset) → to_z w64 (of_z w64 c.offset.result) ≡ c.args.lat -ℤ (pos 10 *ℤ c.args.a.first)
off c =
    let e : to_z w32 (of_z w32 c.args.a.first) ≡ c.args.a.first = search rules in
    (search rules) ∙ c.offset.ensures ∙ ap₂ (λ (x y : ℤ). x -ℤ (pos 10 *ℤ y)) (wide _ c.ranges.lat) e

pub returns-in_err-x : goal.returns-in_err-x
returns-in_err-x c = rw c.from_residual.ensures (λ i f r. (rw (off (goal.at.returns-in_err-x c).After-offset, wide c.args.a.step (search rules)) at c.in_err-x.ensures) r.far r.from_first)

pub returns : goal.returns
returns c =
    row_found c.args.a c.args.lat c.in_ok-x.x c.locate.result (rw (off (goal.at.returns c).After-offset, wide c.args.a.step (search rules)) at c.in_ok-x.ensures) (rw (c.step_of.ensures, c.nodes.ensures) at c.locate.ensures)
