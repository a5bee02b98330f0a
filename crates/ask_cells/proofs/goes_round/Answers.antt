-- `ask_cells::goes_round` meets its contract.
use borrow.Author.Rules.{rules}
use mathlib.Core.Path.{◌≡◌}
use lib.IntN.{+ℤ_idr}
use mir.Syntax.{w32}
use mir.Val.{to_z, of_z}
use Rattle.kit.proofs.TruthLaws.{either}
use Rattle.ask_cells.specs.Found.{strip?, closed?, goes_round?}
use Rattle.ask_cells.proofs.goes_round.Goals as goal

pub returns : goal.returns
unfolding goes_round? closed?
returns c =
    let a = c.args.a in
    let l : to_z w32 (of_z w32 a.last) ≡ a.last = search rules in
    let f : to_z w32 (of_z w32 a.first) ≡ a.first = search rules in
    either (strip? a) (closed? a) c.is_strip.ensures (rw (l, f, +ℤ_idr a.last) at c.is_turn.ensures)
