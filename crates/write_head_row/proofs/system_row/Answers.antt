-- `write_head_row::system_row` meets its contract.
use mathlib.Core.Path.{◌≡◌}
use mathlib.Core.List.{[]}
use native.Mathlib.Omega.{arith}
use lib.ListN.{length, length-set, get_or}
use lib.IntN.{pos}
use mir.Syntax.{w32}
use mir.Facts.{to_z_pos}
use borrow.Author.Rules.{rules}
use Rattle.layout.specs.Names.{names}
use Rattle.write_row.specs.Rows.{row_at}
use Rattle.write_head_row.proofs.Laws.{system_filled}
use Rattle.write_head_row.proofs.system_row.Goals as goal

pub put_int-requires : goal.put_int-requires
put_int-requires c =
    let k : 80 ≡ length c.blank_row-row.result = search rules in
    (omega arith, simp length-set (omega arith))

pub returns : goal.returns
unfolding row_at
returns c =
    let s = c.before.before.before.before.before.before.before.before.before in
    let e1 = rw (to_z_pos w32 s.requires.1) at c.put_int.ensures in
    let e2 = rw (to_z_pos w32 s.requires.2) at c.put_int-2.ensures in
    system_filled (get_or names 13 []) _ c.blank_row-row.ensures _ _ _ (pos s.args.s.stations) (pos s.args.s.satellites) e1 e2
