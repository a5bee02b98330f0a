-- `write_head::put_system` meets its contract.
use Rattle.write_line.proofs.PutLaws.{put_none}
use Rattle.write_head.proofs.put_system.Goals as goal

pub put_line-requires : goal.put_line-requires
put_line-requires c =
    let s = c.before.before.before.before.before in
    rw c.system_row-row.ensures (rw c.if-stands.true at s.requires.3)

pub returns-then-stands : goal.returns-then-stands
returns-then-stands c = rw c.if-stands.true (rw c.system_row-row.ensures at c.put_line.ensures)

pub returns : goal.returns
returns c = rw c.if-stands.false put_none
