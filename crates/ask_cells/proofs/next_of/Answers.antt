-- `ask_cells::next_of` meets its contract.
use mathlib.Core.Path.{ap}
use mathlib.Core.Bool.{not}
use mathlib.Core.Path.{refl, sym}
use borrow.Author.Tests.{not-true, not-false}
use native.Mathlib.Decide.{ℕ_discrete}
use Rattle.kit.proofs.AnswerLaws.{pick_yes, pick_no}
use Rattle.ask_cells.specs.Found.{after}
use Rattle.ask_cells.proofs.next_of.Goals as goal

pub returns-then-not-around : goal.returns-then-not-around
unfolding after
returns-then-not-around c = rw (not-true c.args.around (ap not c.if-not-around.true)) refl

pub returns-then-i-n : goal.returns-then-i-n
unfolding after
returns-then-i-n c = rw (not-false c.args.around (ap not c.if-not-around.false)) (sym (pick_yes (ℕ_discrete _ _) 0 _ c.if-i-n.true))

pub returns : goal.returns
unfolding after
returns c = rw (not-false c.args.around (ap not c.if-not-around.false)) (sym (pick_no (ℕ_discrete _ _) _ _ c.if-i-n.false))
