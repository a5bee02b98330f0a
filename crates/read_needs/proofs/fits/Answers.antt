use mathlib.Core.Path.{sym}
use native.Mathlib.Omega.{arith}
use native.Mathlib.Decide.{dec_le}
use Rattle.kit.proofs.AnswerLaws.{pick_yes, pick_no}
use Rattle.read_needs.specs.Needs.{first_short}
use Rattle.read_needs.proofs.fits.Goals as goal

pub returns-then-lent-need : goal.returns-then-lent-need
unfolding first_short
returns-then-lent-need c = sym (pick_no (dec_le _ _) _ _ (λ e. omega arith))

pub returns : goal.returns
unfolding first_short
returns c = sym (pick_yes (dec_le _ _) _ _ (omega arith))
