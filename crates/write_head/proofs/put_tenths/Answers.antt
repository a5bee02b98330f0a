-- `write_head::put_tenths` meets its contract.
use Rattle.write_head.proofs.put_tenths.Goals as goal

pub put_line-requires : goal.put_line-requires
put_line-requires c =
    let s = c.before.before.before.before in
    rw c.tenths_row-row.ensures s.requires.2

pub returns : goal.returns
returns c = rw c.tenths_row-row.ensures at c.put_line.ensures
