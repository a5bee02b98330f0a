-- `head_state::number_in` meets its contract.
use native.Mathlib.Omega.{arith}
use Rattle.head_state.proofs.GotLaws.{number_got}
use Rattle.head_state.proofs.number_in.Goals as goal

pub returns : goal.returns
returns c = let a = c.args in rw c.value_in.ensures (number_got a.s.now a.i (omega arith) c.requires.1)
