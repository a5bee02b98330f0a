-- `join_head::interval` meets its contract.
use mathlib.Core.Path.{sym}
use native.Mathlib.Decide.{ℕ_discrete}
use Rattle.kit.proofs.AnswerLaws.{pick_yes, pick_no}
use Rattle.join_head.proofs.interval.Goals as goal

pub returns-then-i-j : goal.returns-then-i-j
returns-then-i-j c = let a = c.args in sym (pick_yes (ℕ_discrete a.i a.j) a.j 0 c.if-i-j.true)

pub returns : goal.returns
returns c = let a = c.args in sym (pick_no (ℕ_discrete a.i a.j) a.j 0 c.if-i-j.false)
