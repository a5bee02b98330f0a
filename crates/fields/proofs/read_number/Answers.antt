-- `fields::read_number` meets its contract.
use native.Mathlib.Omega.{arith}
use Rattle.fields.proofs.Point.{dot_most}
use Rattle.fields.proofs.read_number.Goals as goal

pub read_int-requires : goal.read_int-requires
read_int-requires c = let h = rw c.if-after-eq0.true at c.requires in omega arith

pub returns-then-after-eq0 : goal.returns-then-after-eq0
returns-then-after-eq0 c = rw c.if-after-eq0.true c.read_int.ensures

pub read_decimal-requires : goal.read_decimal-requires
read_decimal-requires c = (omega (arith, c.if-after-eq0.false), omega (arith, dot_most c.args.after))
