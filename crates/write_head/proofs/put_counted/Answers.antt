-- `write_head::put_counted` meets its contract.
use Rattle.write_line.proofs.PutLaws.{put_none}
use Rattle.write_head.proofs.put_counted.Goals as goal

pub put_count-requires : goal.put_count-requires
put_count-requires c =
    let s = c.before.before.before in
    (s.requires.0, s.requires.1, rw c.if-stands.true at s.requires.2)

pub returns-then-stands : goal.returns-then-stands
returns-then-stands c = rw c.if-stands.true c.put_count.ensures

pub returns : goal.returns
returns c = rw c.if-stands.false put_none
