-- `write_row::number_row` meets its contract.
use mathlib.Core.List.{[]}
use lib.ListN.{get_or}
use mir.Facts.{to_z-of_z}
use Rattle.layout.specs.Names.{names}
use Rattle.write_row.specs.Rows.{row_at}
use Rattle.write_row.proofs.RowLaws.{whole_filled}
use Rattle.write_row.proofs.number_row.Goals as goal

pub returns : goal.returns
unfolding row_at
returns c =
    let s = c.before.before.before.before in
    whole_filled (get_or names s.args.k []) _ c.blank_row-row.ensures _ s.args.z (rw (to_z-of_z s.ranges.z) at c.put_int.ensures)
