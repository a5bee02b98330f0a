use Rattle.read_lines.proofs.Reaching.{ended}
use Rattle.read_lines.proofs.row_from.Goals as goal

pub returns : goal.returns
returns c = ended c.args.text.now c.args.from c.args.passed c.loop-at.at c.loop-at.n c.loop-at.invariant c.loop-at-test.false
