-- `mapset::need` meets its contract.
use mathlib.Core.Path.{sym, ◌∙◌}
use Rattle.kit.proofs.AnswerLaws.{pick_yes, pick_no}
use Rattle.kit.proofs.TruthLaws.{truth_true, truth_false}
use Rattle.mapset.proofs.need.Goals as goal

pub returns-then-nowhere : goal.returns-then-nowhere
returns-then-nowhere c = sym (pick_yes _ _ _ (truth_true _ (sym c.nowhere.ensures ∙ c.if-nowhere.true)))

pub returns-else-nowhere : goal.returns-else-nowhere
returns-else-nowhere c = sym (pick_no _ _ _ (truth_false _ (sym c.nowhere.ensures ∙ c.if-nowhere.false)))
