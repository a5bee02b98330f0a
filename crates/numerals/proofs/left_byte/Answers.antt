-- `numerals::left_byte` meets its contract.
use mathlib.Core.Path.{sym}
use Rattle.forms.specs.Bytes.{left_byte}
use Rattle.numerals.proofs.Written.{left_digit, left_zero}
use Rattle.numerals.proofs.left_byte.Goals as goal

pub returns-then-n-gt0 : goal.returns-then-n-gt0
returns-then-n-gt0 c = left_digit _ _ c.if-n-gt0.true

-- a minus, or a blank
pub returns-then-minus : goal.returns-then-minus
returns-then-minus c = sym (λ i. left_byte (left_zero _ c.if-n-gt0.false i) (c.if-minus.true i))

pub returns-else-minus : goal.returns-else-minus
returns-else-minus c = sym (λ i. left_byte (left_zero _ c.if-n-gt0.false i) (c.if-minus.false i))
