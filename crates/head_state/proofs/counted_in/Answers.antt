-- `head_state::counted_in` meets its contract.
use native.Mathlib.Omega.{arith}
use Rattle.head_state.proofs.GotLaws.{counted_got}
use Rattle.head_state.proofs.counted_in.Goals as goal

pub returns : goal.returns
returns c = let a = c.args in rw (c.value_in-v.ensures, c.is_some.ensures) (counted_got a.s.now a.i (omega arith) c.requires.1)
