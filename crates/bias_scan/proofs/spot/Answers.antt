-- `bias_scan::spot` meets its contract.
use mathlib.Core.Path.{sym}
use native.Mathlib.Decide.{ℕ_discrete}
use Rattle.kit.proofs.AnswerLaws.{pick_yes, pick_no}
use Rattle.bias_scan.specs.Marks.{spot}
use Rattle.bias_scan.proofs.spot.Goals as goal

pub returns-then-s-eq71 : goal.returns-then-s-eq71
unfolding spot
returns-then-s-eq71 c = sym (pick_yes (ℕ_discrete _ _) _ _ c.if-s-eq71.true)

pub returns : goal.returns
unfolding spot
returns c = sym (pick_no (ℕ_discrete _ _) _ _ c.if-s-eq71.false)
