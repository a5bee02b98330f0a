-- `ask::round::round_abs` meets its contract.
use native.Mathlib.Omega.{arith}
use native.Mathlib.Nat.{mod-lt, div-le_self}
use Rattle.ask_round.proofs.RoundLaws.{round_down, round_up}
use Rattle.ask_round.proofs.round_abs.Goals as goal

pub overflow_mul-m : goal.overflow_mul-m
overflow_mul-m c = omega (arith, mod-lt c.args.m c.requires.0, c.requires)

pub returns-then-m-d : goal.returns-then-m-d
returns-then-m-d c = let s = c.before in round_down s.args.m s.args.d s.requires.0 c.if-m-d.true

pub overflow_add-result : goal.overflow_add-result
overflow_add-result c = let s = c.before in omega (arith, div-le_self s.args.m s.args.d, s.requires)

pub returns : goal.returns
returns c = let s = c.before in round_up s.args.m s.args.d s.requires.0 c.if-m-d.false
