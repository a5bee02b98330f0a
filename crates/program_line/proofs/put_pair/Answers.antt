-- `program_line::put_pair` meets its contract.
use native.Mathlib.Omega.{arith}
use Rattle.program_line.proofs.LineLaws.{then}
use Rattle.program_line.proofs.put_pair.Goals as goal

pub returns : goal.returns
returns c = (then c.put-next.ensures c.put_number.ensures.0, omega (arith, c.put-next.ensures.moved, c.put_number.ensures.1))
