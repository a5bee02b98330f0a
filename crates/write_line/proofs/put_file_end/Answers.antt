-- `write_line::put_file_end` meets its contract.
use Rattle.layout.specs.Names.{names}
use Rattle.canonical.specs.Canon.{row_of, columns_of}
use Rattle.write_line.proofs.put_file_end.Goals as goal

pub put_line-requires : goal.put_line-requires
unfolding row_of columns_of names
put_line-requires c =
    let s = c.before.before.before.before in
    rw c.blank_row-row.ensures s.requires

pub returns : goal.returns
unfolding row_of columns_of names
returns c = rw c.blank_row-row.ensures at c.put_line.ensures
