-- `c_why::wide` meets its contract.
use mir.Syntax.{w64}
use mir.Facts.{to_z-of_z, sfits_widen}
use Rattle.c_why.proofs.wide.Goals as goal

pub overflow_cast-result : goal.overflow_cast-result
overflow_cast-result c = rw (to_z-of_z c.ranges.v) (sfits_widen tt c.ranges.v)

pub returns : goal.returns
returns c = rw (to_z-of_z c.ranges.v) (to_z-of_z {w = w64} (sfits_widen (tt {0}) c.ranges.v))
