-- `bias_line::outside` meets its contract.
use mathlib.Core.Path.{ap}
use mathlib.Core.Bool.{not}
use mathlib.Core.Path.{refl, sym, ◌∙◌}
use borrow.Author.Tests.{not-true, not-false}
use Rattle.kit.proofs.AnswerLaws.{pick_yes, pick_no}
use Rattle.kit.specs.Answer.{same}
use Rattle.kit.proofs.TruthLaws.{truth_true, truth_false}
use Rattle.layout.specs.Labels.{name}
use Rattle.biases.specs.Rules.{title}
use Rattle.biases.specs.Read.{role}
use Rattle.bias_line.proofs.LineLaws.{label_held, title_held}
use Rattle.bias_line.proofs.outside.Goals as goal

pub returns-then-has_label : goal.returns-then-has_label
unfolding role name title
returns-then-has_label c = sym (pick_yes (same _ _) _ _ (truth_true _ (sym (c.has_label.ensures ∙ label_held c.args.line.now c.requires _ refl) ∙ c.if-has_label.true)))

pub returns-then-not-has_label : goal.returns-then-not-has_label
unfolding role name title
returns-then-not-has_label c = sym (pick_no (same _ _) _ _ (truth_false _ (sym (c.has_label.ensures ∙ label_held c.args.line.now c.requires _ refl) ∙ c.if-has_label.false)) ∙ pick_no (same _ _) _ _ (truth_false _ (sym (c.has_label-2.ensures ∙ label_held c.args.line.now c.requires _ refl) ∙ not-true _ (ap not c.if-not-has_label.true))))

pub returns-then-has : goal.returns-then-has
unfolding role name title
returns-then-has c = sym (pick_no (same _ _) _ _ (truth_false _ (sym (c.has_label.ensures ∙ label_held c.args.line.now c.requires _ refl) ∙ c.if-has_label.false)) ∙ pick_yes (same _ _) _ _ (truth_true _ (sym (c.has_label-2.ensures ∙ label_held c.args.line.now c.requires _ refl) ∙ not-false _ (ap not c.if-not-has_label.false))) ∙ pick_yes (same _ _) _ _ (truth_true _ (sym (c.has.ensures ∙ title_held c.args.line.now c.requires title refl) ∙ c.if-has.true)))

pub returns : goal.returns
unfolding role name title
returns c = sym (pick_no (same _ _) _ _ (truth_false _ (sym (c.has_label.ensures ∙ label_held c.args.line.now c.requires _ refl) ∙ c.if-has_label.false)) ∙ pick_yes (same _ _) _ _ (truth_true _ (sym (c.has_label-2.ensures ∙ label_held c.args.line.now c.requires _ refl) ∙ not-false _ (ap not c.if-not-has_label.false))) ∙ pick_no (same _ _) _ _ (truth_false _ (sym (c.has.ensures ∙ title_held c.args.line.now c.requires title refl) ∙ c.if-has.false)))
