-- `bias_line::role_of` meets its contract.
use mathlib.Core.Path.{sym, ap, ◌∙◌}
use Rattle.layout.specs.Text.{pad}
use Rattle.biases.specs.Read.{role}
use Rattle.biases.specs.declared.Place.{Place}
use Rattle.bias_line.proofs.role_of.Goals as goal

pub returns-in-Outside : goal.returns-in-Outside
returns-in-Outside c = c.outside.ensures ∙ ap (λ (p : Place). role p (pad c.args.line.now)) (sym c.in-Outside.is)

pub returns-in-Inside : goal.returns-in-Inside
returns-in-Inside c = c.inside.ensures ∙ ap (λ (p : Place). role p (pad c.args.line.now)) (sym c.in-Inside.is)

pub returns-in-Beside : goal.returns-in-Beside
returns-in-Beside c = c.beside.ensures ∙ ap (λ (p : Place). role p (pad c.args.line.now)) (sym c.in-Beside.is)
