use borrow.Author.Rules.{rules}
use mathlib.Core.Path.{◌≡◌, sym, ◌∙◌}
use mir.Syntax.{w32}
use mir.Val.{to_z, of_z}
use Rattle.kit.proofs.AnswerLaws.{pick_yes, pick_no}
use Rattle.kit.proofs.TruthLaws.{truth_true, truth_false}
use Rattle.mapset.specs.Decisions.{end?, step?, together?}
use Rattle.mapset.specs.Judged.{judged}
use Rattle.mapset.proofs.axes.judge.Goals as goal

pub returns-then-not-end_fits : goal.returns-then-not-end_fits
unfolding judged
returns-then-not-end_fits c =
    let f : to_z w32 (of_z w32 c.args.a.first) ≡ c.args.a.first = search rules in
    sym (
    pick_no (end? _ _) _ _ (truth_false _ (sym (rw f at c.end_fits.ensures) ∙ c.if-not-end_fits.true))
    )

pub returns-then-not-end_fits-2 : goal.returns-then-not-end_fits-2
unfolding judged
returns-then-not-end_fits-2 c =
    let f : to_z w32 (of_z w32 c.args.a.first) ≡ c.args.a.first = search rules in
    let l : to_z w32 (of_z w32 c.args.a.last) ≡ c.args.a.last = search rules in
    sym (
    pick_yes (end? _ _) _ _ (truth_true _ (sym (rw f at c.end_fits.ensures) ∙ c.if-not-end_fits.false))
    ∙ pick_no (end? _ _) _ _ (truth_false _ (sym (rw l at c.end_fits-2.ensures) ∙ c.if-not-end_fits-2.true))
    )

pub returns-then-not-step_fits : goal.returns-then-not-step_fits
unfolding judged
returns-then-not-step_fits c =
    let f : to_z w32 (of_z w32 c.args.a.first) ≡ c.args.a.first = search rules in
    let l : to_z w32 (of_z w32 c.args.a.last) ≡ c.args.a.last = search rules in
    let s : to_z w32 (of_z w32 c.args.a.step) ≡ c.args.a.step = search rules in
    sym (
    pick_yes (end? _ _) _ _ (truth_true _ (sym (rw f at c.end_fits.ensures) ∙ c.if-not-end_fits.false))
    ∙ pick_yes (end? _ _) _ _ (truth_true _ (sym (rw l at c.end_fits-2.ensures) ∙ c.if-not-end_fits-2.false))
    ∙ pick_no (step? _ _) _ _ (truth_false _ (sym (rw s at c.step_fits.ensures) ∙ c.if-not-step_fits.true))
    )

pub returns-then-not-fields_agree : goal.returns-then-not-fields_agree
unfolding judged
returns-then-not-fields_agree c =
    let f : to_z w32 (of_z w32 c.args.a.first) ≡ c.args.a.first = search rules in
    let l : to_z w32 (of_z w32 c.args.a.last) ≡ c.args.a.last = search rules in
    let s : to_z w32 (of_z w32 c.args.a.step) ≡ c.args.a.step = search rules in
    sym (
    pick_yes (end? _ _) _ _ (truth_true _ (sym (rw f at c.end_fits.ensures) ∙ c.if-not-end_fits.false))
    ∙ pick_yes (end? _ _) _ _ (truth_true _ (sym (rw l at c.end_fits-2.ensures) ∙ c.if-not-end_fits-2.false))
    ∙ pick_yes (step? _ _) _ _ (truth_true _ (sym (rw s at c.step_fits.ensures) ∙ c.if-not-step_fits.false))
    ∙ pick_no (together? _ _) _ _ (truth_false _ (sym c.fields_agree.ensures ∙ c.if-not-fields_agree.true))
    )

pub returns : goal.returns
unfolding judged
returns c =
    let f : to_z w32 (of_z w32 c.args.a.first) ≡ c.args.a.first = search rules in
    let l : to_z w32 (of_z w32 c.args.a.last) ≡ c.args.a.last = search rules in
    let s : to_z w32 (of_z w32 c.args.a.step) ≡ c.args.a.step = search rules in
    sym (
    pick_yes (end? _ _) _ _ (truth_true _ (sym (rw f at c.end_fits.ensures) ∙ c.if-not-end_fits.false))
    ∙ pick_yes (end? _ _) _ _ (truth_true _ (sym (rw l at c.end_fits-2.ensures) ∙ c.if-not-end_fits-2.false))
    ∙ pick_yes (step? _ _) _ _ (truth_true _ (sym (rw s at c.step_fits.ensures) ∙ c.if-not-step_fits.false))
    ∙ pick_yes (together? _ _) _ _ (truth_true _ (sym c.fields_agree.ensures ∙ c.if-not-fields_agree.false))
    )
