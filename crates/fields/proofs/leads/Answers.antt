-- `fields::leads` meets its contract: from its end on, the neighbours decide.
use mathlib.Core.Path.{◌∙◌}
use native.Mathlib.Omega.{arith}
use Rattle.fields.proofs.Judged.{int_judged}
use Rattle.fields.proofs.Steps.{led_end, led_next, led_whole}
use Rattle.fields.proofs.leads.Goals as goal

pub loop-i-init : goal.loop-i-init
loop-i-init c = rw c.is_digit-ok.ensures (led_end _ _)

pub loop-i-preserved : goal.loop-i-preserved
loop-i-preserved c = rw c.may_precede-ok.ensures (led_next _ _ c.loop-i.i c.loop-i-test.true (omega arith) c.loop-i.invariant)

pub returns : goal.returns
returns c = led_whole _ _ c.loop-i.i (omega arith) c.loop-i.invariant ∙ int_judged _
