-- `write_line::put_number` meets its contract.
use mir.Facts.{to_z-of_z}
use Rattle.write_line.proofs.put_number.Goals as goal

pub put_line-requires : goal.put_line-requires
put_line-requires c =
    let s = c.before.before.before.before in
    rw (c.number_row-row.ensures, to_z-of_z s.ranges.z) s.requires.1

pub returns : goal.returns
returns c =
    let s = c.before.before.before.before.before.before.before in
    rw (c.number_row-row.ensures, to_z-of_z s.ranges.z) at c.put_line.ensures
