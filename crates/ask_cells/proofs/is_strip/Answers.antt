-- `ask_cells::is_strip` meets its contract.
use borrow.Author.Rules.{rules}
use mathlib.Core.Path.{◌≡◌}
use mathlib.Core.Bool.{Bool}
use lib.IntN.{ℤ, pos, ◌+ℤ◌}
use Rattle.kit.specs.Truth.{truth}
use Rattle.kit.specs.Integer.{int?}
use Rattle.mapset.specs.declared.Axis.{Axis}
use mir.Syntax.{w32}
use mir.Val.{to_z, of_z}
use Rattle.ask_cells.specs.Found.{strip?}
use Rattle.ask_cells.proofs.is_strip.Goals as goal

-- the axis by its three numbers, as they are handed on
by_numbers : (a : Axis) (x d o : ℤ) (r : Bool) → x ≡ a.last → d ≡ a.step → o ≡ a.first → r ≡ truth (int? (x +ℤ d) (o +ℤ pos 3600)) → r ≡ truth (strip? a)
unfolding strip?
by_numbers a x d o r l s f e = rw (l, s, f) at e

pub returns : goal.returns
returns c =
    let a = c.args.a in
    let l : to_z w32 (of_z w32 a.last) ≡ a.last = search rules in
    let d : to_z w32 (of_z w32 a.step) ≡ a.step = search rules in
    let f : to_z w32 (of_z w32 a.first) ≡ a.first = search rules in
    by_numbers a _ _ _ _ l d f c.is_turn.ensures
