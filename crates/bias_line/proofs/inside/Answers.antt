-- `bias_line::inside` meets its contract.
use mathlib.Core.Path.{refl, sym, ◌∙◌}
use Rattle.kit.proofs.AnswerLaws.{pick_yes, pick_no}
use Rattle.kit.specs.Answer.{same}
use Rattle.kit.proofs.TruthLaws.{truth_true, truth_false}
use Rattle.layout.specs.Labels.{name}
use Rattle.biases.specs.Rules.{of_satellite, of_station}
use Rattle.biases.specs.Read.{role}
use Rattle.bias_line.proofs.LineLaws.{label_held}
use Rattle.bias_line.proofs.inside.Goals as goal

pub returns-then-has_label : goal.returns-then-has_label
unfolding role name of_satellite of_station
returns-then-has_label c = sym (pick_yes (same _ _) _ _ (truth_true _ (sym (c.has_label.ensures ∙ label_held c.args.line.now c.requires _ refl) ∙ c.if-has_label.true)))

pub returns-then-has_label-2 : goal.returns-then-has_label-2
unfolding role name of_satellite of_station
returns-then-has_label-2 c = sym (pick_no (same _ _) _ _ (truth_false _ (sym (c.has_label.ensures ∙ label_held c.args.line.now c.requires _ refl) ∙ c.if-has_label.false)) ∙ pick_yes (same _ _) _ _ (truth_true _ (sym (c.has_label-2.ensures ∙ label_held c.args.line.now c.requires _ refl) ∙ c.if-has_label-2.true)))

pub returns-then-has_label-3 : goal.returns-then-has_label-3
unfolding role name of_satellite of_station
returns-then-has_label-3 c = sym (pick_no (same _ _) _ _ (truth_false _ (sym (c.has_label.ensures ∙ label_held c.args.line.now c.requires _ refl) ∙ c.if-has_label.false)) ∙ pick_no (same _ _) _ _ (truth_false _ (sym (c.has_label-2.ensures ∙ label_held c.args.line.now c.requires _ refl) ∙ c.if-has_label-2.false)) ∙ pick_yes (same _ _) _ _ (truth_true _ (sym (c.has_label-3.ensures ∙ label_held c.args.line.now c.requires _ refl) ∙ c.if-has_label-3.true)))

pub returns : goal.returns
unfolding role name of_satellite of_station
returns c = sym (pick_no (same _ _) _ _ (truth_false _ (sym (c.has_label.ensures ∙ label_held c.args.line.now c.requires _ refl) ∙ c.if-has_label.false)) ∙ pick_no (same _ _) _ _ (truth_false _ (sym (c.has_label-2.ensures ∙ label_held c.args.line.now c.requires _ refl) ∙ c.if-has_label-2.false)) ∙ pick_no (same _ _) _ _ (truth_false _ (sym (c.has_label-3.ensures ∙ label_held c.args.line.now c.requires _ refl) ∙ c.if-has_label-3.false)))
