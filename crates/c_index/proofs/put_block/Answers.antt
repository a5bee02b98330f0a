use mathlib.Core.Path.{refl, subst}
use native.Mathlib.Omega.{arith}
use Rattle.c_index.specs.Crossed.{Ordered}
use Rattle.c_index.proofs.put_block.Goals as goal

pub overflow_sub-count : goal.overflow_sub-count
overflow_sub-count c = omega (arith, subst Ordered c.in-Ok.is c.requires.1)

pub returns-in-Ok : goal.returns-in-Ok
returns-in-Ok c = rw c.in-Ok.is (refl, c.put_pair.ensures)
