-- `write_line::put_dated` meets its contract.
use Rattle.write_line.proofs.put_dated.Goals as goal

pub put_line-requires : goal.put_line-requires
put_line-requires c =
    let s = c.before.before.before.before in
    rw c.epoch_row-row.ensures s.requires.1

pub returns : goal.returns
returns c = rw c.epoch_row-row.ensures at c.put_line.ensures
