use mathlib.Core.Path.{◌≡◌, sym, ◌∙◌}
use native.Mathlib.Omega.{arith}
use native.Mathlib.Decide.{dec_le}
use Rattle.kit.proofs.AnswerLaws.{pick_yes, pick_no}
use Rattle.c_answers.specs.Own.{too_short}
use Rattle.c_answers.proofs.too_short.Goals as goal

pub returns-then-header-lt45 : goal.returns-then-header-lt45
unfolding too_short
returns-then-header-lt45 c = sym (pick_no (dec_le _ _) _ _ (λ e. omega arith))

pub returns-then-texts-lt1324 : goal.returns-then-texts-lt1324
unfolding too_short
returns-then-texts-lt1324 c = sym (pick_yes (dec_le _ _) _ _ (omega arith) ∙ pick_no (dec_le _ _) _ _ (λ e. omega arith))

-- a result area too short has a number of its own
pub returns-then-res-elements : goal.returns-then-res-elements
unfolding too_short
returns-then-res-elements c =
    let a = c.args in
    let told : too_short a.header a.texts a.res a.elements ≡ 103 = pick_yes (dec_le _ _) _ _ (omega arith) ∙ pick_yes (dec_le _ _) _ _ (omega arith) ∙ pick_no (dec_le _ _) _ _ (λ e. omega arith) in
    sym told

pub returns : goal.returns
unfolding too_short
returns c = sym (pick_yes (dec_le _ _) _ _ (omega arith) ∙ pick_yes (dec_le _ _) _ _ (omega arith) ∙ pick_yes (dec_le _ _) _ _ (omega arith))
