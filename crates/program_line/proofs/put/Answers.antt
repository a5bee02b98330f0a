-- `program_line::put` meets its contract.
use Rattle.program_line.proofs.LineLaws.{adds_put}
use Rattle.program_line.proofs.put.Goals as goal

pub returns : goal.returns
returns c = rw c.put_text.ensures (adds_put c.args.out.now c.args.at c.args.bytes.now c.requires)
