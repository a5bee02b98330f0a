use mathlib.Core.Path.{sym, ◌∙◌, ap}
use Rattle.kit.specs.Answer.{refused}
use Rattle.read_values.proofs.ValueLaws.{passed_none, passed_more, passed_wrong}
use Rattle.read_values.proofs.values_in.Goals as goal

pub loop-k-init : goal.loop-k-init
loop-k-init c = passed_none _ _

pub returns-then-not-is_value : goal.returns-then-not-is_value
returns-then-not-is_value c =
    passed_wrong _ _ _ c.requires.0 c.requires.1 c.loop-k-test.true c.loop-k.invariant (sym c.if-not-is_value.true ∙ c.is_value.ensures)
    ∙ ap refused (sym c.ill_formed.ensures)

pub loop-k-preserved : goal.loop-k-preserved
loop-k-preserved c = passed_more _ _ _ c.requires.0 c.requires.1 c.loop-k-test.true c.loop-k.invariant (sym c.if-not-is_value.false ∙ c.is_value.ensures)
