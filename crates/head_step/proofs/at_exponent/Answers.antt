use mathlib.Core.Path.{◌≡◌, refl, sym, ◌∙◌}
use borrow.Author.Rules.{rules}
use mir.Syntax.{w32}
use mir.Val.{to_z, of_z}
use Rattle.std.proofs.lemmas.Result.{err_from_is_err_and}
use Rattle.kit.specs.Answer.{bind}
use Rattle.kit.specs.Integer.{between?}
use Rattle.kit.proofs.AnswerLaws.{need_yes, need_no}
use Rattle.kit.proofs.TruthLaws.{truth_true, truth_false}
use Rattle.layout.specs.Layout.{exponent?}
use Rattle.head_state.specs.Got.{slots_of, slot}
use Rattle.head_step.specs.Step.{exponent_in}
use Rattle.head_step.proofs.at_exponent.Goals as goal

pub returns-in_err-exponent : goal.returns-in_err-exponent
unfolding exponent_in bind
returns-in_err-exponent c =
    let p = err_from_is_err_and c.from_residual.result c.from_residual.ensures.1 in
    rw (p.1, p.2, sym c.one_number.ensures, c.in_err-exponent.was) refl

pub returns-then-not-between : goal.returns-then-not-between
unfolding exponent_in exponent? bind
returns-then-not-between c =
    let z : to_z w32 (of_z w32 c.in_ok-exponent.exponent) ≡ c.in_ok-exponent.exponent = search rules in
    let j = rw z at c.between.ensures in
    rw (sym c.one_number.ensures, c.in_ok-exponent.was) (sym (need_no (between? _ _ _) _ _ (truth_false _ (sym j ∙ c.if-not-between.true))))

pub returns : goal.returns
unfolding exponent_in exponent? bind slots_of slot
returns c =
    let z : to_z w32 (of_z w32 c.in_ok-exponent.exponent) ≡ c.in_ok-exponent.exponent = search rules in
    let j = rw z at c.between.ensures in
    rw (sym c.one_number.ensures, c.in_ok-exponent.was, z) (sym (need_yes (between? _ _ _) _ _ (truth_true _ (sym j ∙ c.if-not-between.false))))
