use native.Mathlib.Omega.{arith}
use Rattle.index_block.proofs.HitLaws.{spot_before, spot_behind, spot_here}
use Rattle.index_block.proofs.spot_of.Goals as goal

pub returns-then-column-done : goal.returns-then-column-done
returns-then-column-done c = spot_before _ _ _ _ (omega arith)

pub returns-then-k-gt15 : goal.returns-then-k-gt15
returns-then-k-gt15 c = spot_behind _ _ _ _ (omega arith) (omega arith)

pub returns : goal.returns
returns c = spot_here _ _ _ _ (omega arith) (omega arith)
