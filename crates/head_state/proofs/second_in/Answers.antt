-- `head_state::second_in` meets its contract.
use native.Mathlib.Omega.{arith}
use Rattle.head_state.proofs.GotLaws.{second_got}
use Rattle.head_state.proofs.second_in.Goals as goal

pub returns : goal.returns
returns c = let a = c.args in rw c.value_in.ensures (second_got a.s.now a.i (omega arith) c.requires.1)
