use native.Mathlib.Omega.{arith}
use Rattle.read_lines.specs.Lines.{blank?}
use Rattle.read_lines.proofs.Passing.{passing_step, passing_stop, passing_end}
use Rattle.read_lines.proofs.blanks_in.Goals as goal

pub returns-then-b-ne32 : goal.returns-then-b-ne32
returns-then-b-ne32 c = passing_stop blank? c.args.line.now c.loop-i.i c.loop-i.invariant c.loop-i-test.true c.if-b-ne32.true

pub loop-i-preserved : goal.loop-i-preserved
loop-i-preserved c = passing_step blank? c.args.line.now c.loop-i.i c.loop-i.invariant c.loop-i-test.true c.if-b-ne32.false

pub returns : goal.returns
returns c =
    let e = passing_end blank? c.args.line.now c.loop-i.i c.loop-i.invariant (omega arith) in
    omega arith
