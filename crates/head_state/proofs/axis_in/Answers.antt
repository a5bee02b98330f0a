-- `head_state::axis_in` meets its contract.
use native.Mathlib.Omega.{arith}
use Rattle.head_state.proofs.GotLaws.{axis_got}
use Rattle.head_state.proofs.axis_in.Goals as goal

pub returns : goal.returns
returns c = let a = c.args in rw c.value_in.ensures (axis_got a.s.now a.i (omega arith) c.requires.1)
