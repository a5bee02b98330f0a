use native.Mathlib.Omega.{arith}
use mathlib.Core.Path.{ap, ◌∙◌}
use Rattle.forms.specs.Read.{is_number}
use Rattle.read_values.proofs.ValueLaws.{field_short, field_whole}
use Rattle.read_values.proofs.is_value.Goals as goal

pub returns-then-line-e : goal.returns-then-line-e
returns-then-line-e c = field_short _ _ c.if-line-e.true

pub returns : goal.returns
returns c = c.is_int.ensures ∙ ap is_number (field_whole _ _ (omega arith))
