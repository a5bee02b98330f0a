use mathlib.Core.Path.{sym, ◌∙◌}
use Rattle.kit.proofs.TruthLaws.{truth_true, truth_false}
use Rattle.mapset.proofs.JudgedLaws.{latitudes_toward, latitudes_loose}
use Rattle.mapset.proofs.axes.latitudes_agree.Goals as goal

pub returns-then-ends_divide : goal.returns-then-ends_divide
returns-then-ends_divide c = c.toward.ensures ∙ latitudes_toward c.args.a (truth_true _ (sym c.ends_divide.ensures ∙ c.if-ends_divide.true))

pub returns-else-ends_divide : goal.returns-else-ends_divide
returns-else-ends_divide c = c.if-ends_divide.false ∙ latitudes_loose c.args.a (truth_false _ (sym c.ends_divide.ensures ∙ c.if-ends_divide.false))
