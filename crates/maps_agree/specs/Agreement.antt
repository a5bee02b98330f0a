-- What three numbers of a block's opening must agree with, as the code has it.
use Rattle.std.specs.Prelude.{ℕ, ℤ, Option, Some, None}
use Rattle.kit.specs.Answer.{pick}
use Rattle.kit.specs.Integer.{int?}
use Rattle.mapset.specs.declared.Axis.{Axis}

-- the first column of the first of three numbers that is not the axis'
unfoldable pub differing : Axis → ℤ → ℤ → ℤ → Option ℕ
differing a x y z = pick (int? x a.first) (pick (int? y a.last) (pick (int? z a.step) None (Some 21)) (Some 15)) (Some 9)
