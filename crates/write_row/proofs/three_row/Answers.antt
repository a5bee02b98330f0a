-- `write_row::three_row` meets its contract.
use mathlib.Core.List.{[]}
use lib.ListN.{get_or}
use mir.Facts.{to_z-of_z}
use Rattle.layout.specs.Names.{names}
use Rattle.write_row.specs.Rows.{row_at}
use Rattle.write_row.proofs.RowLaws.{three_filled}
use Rattle.write_row.proofs.three_row.Goals as goal

pub returns : goal.returns
unfolding row_at
returns c =
    let s = c.before.before.before.before.before.before.before.before.before.before in
    let e1 = rw (to_z-of_z s.ranges.x) at c.put_tenths.ensures in
    let e2 = rw (to_z-of_z s.ranges.y) at c.put_tenths-2.ensures in
    let e3 = rw (to_z-of_z s.ranges.z) at c.put_tenths-3.ensures in
    three_filled (get_or names s.args.k []) _ c.blank_row-row.ensures _ _ _ s.args.x s.args.y s.args.z e1 e2 e3
