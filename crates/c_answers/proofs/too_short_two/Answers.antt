-- `c_answers::too_short_two` meets its contract.
use native.Mathlib.Omega.{arith}
use Rattle.c_answers.proofs.OwnLaws.{short_first, short_then}
use Rattle.c_answers.proofs.too_short_two.Goals as goal

pub returns-then-short-gt0 : goal.returns-then-short-gt0
returns-then-short-gt0 c = let s = c.before.before in short_first s.args.header s.args.texts s.args.a s.args.m s.args.b s.args.n c.too_short-short.ensures (omega (arith, c.if-short-gt0.true))

pub returns : goal.returns
returns c = let s = c.before.before.before in short_then s.args.header s.args.texts s.args.a s.args.m s.args.b s.args.n c.too_short-short.ensures (omega (arith, c.if-short-gt0.false)) c.too_short.ensures
