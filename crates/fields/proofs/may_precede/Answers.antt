-- `fields::may_precede` meets its contract.
use mathlib.Core.Bool.{◌||◌, ◌&&◌}
use lib.Dec.{eqb}
use Rattle.fields.proofs.may_precede.Goals as goal

-- a blank, or a minus or digit before a digit
pub returns : goal.returns
returns c =
    let b = c.args.b in
    λ i. eqb b 32 || ((eqb b 45 || c.is_digit.ensures i) && c.is_digit-2.ensures i)
