-- `write_head_row::tenths_row` meets its contract.
use mathlib.Core.List.{[]}
use lib.IntN.{pos}
use lib.ListN.{get_or}
use mir.Syntax.{w32}
use mir.Facts.{to_z_pos}
use Rattle.layout.specs.Names.{names}
use Rattle.write_row.specs.Rows.{row_at}
use Rattle.write_head_row.proofs.Laws.{eight_filled}
use Rattle.write_head_row.proofs.tenths_row.Goals as goal

pub returns : goal.returns
unfolding row_at
returns c =
    let s = c.before.before.before.before in
    eight_filled (get_or names s.args.k []) _ c.blank_row-row.ensures _ (pos s.args.n) (rw (to_z_pos w32 s.requires.1) at c.put_tenths.ensures)
