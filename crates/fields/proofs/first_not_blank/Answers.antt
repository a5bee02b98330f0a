-- `fields::first_not_blank` meets its contract: the first place from here on is the first of all.
use mathlib.Core.Path.{refl, sym, ◌∙◌}
use native.Mathlib.Omega.{arith}
use Rattle.fields.proofs.Lines.{found_here, blank_here, none_left}
use Rattle.fields.proofs.first_not_blank.Goals as goal

pub loop-i-init : goal.loop-i-init
loop-i-init c = refl

pub returns-then-byte_at-ne32 : goal.returns-then-byte_at-ne32
returns-then-byte_at-ne32 c = found_here _ _ _ (omega arith) _ c.byte_at.ensures c.if-byte_at-ne32.true ∙ sym c.loop-i.invariant

pub loop-i-preserved : goal.loop-i-preserved
loop-i-preserved c = c.loop-i.invariant ∙ blank_here _ _ _ (omega arith) _ c.byte_at.ensures c.if-byte_at-ne32.false

pub returns : goal.returns
returns c = none_left _ _ _ (omega arith) ∙ sym c.loop-i.invariant
