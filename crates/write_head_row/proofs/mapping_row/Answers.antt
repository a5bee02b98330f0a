-- `write_head_row::mapping_row` meets its contract.
use mathlib.Core.Path.{◌≡◌, ap}
use mathlib.Core.List.{[]}
use native.Mathlib.Omega.{arith}
use lib.ListN.{length, get_or}
use borrow.Author.Rules.{rules}
use Rattle.layout.specs.Labels.{name}
use Rattle.layout.specs.Names.{names}
use Rattle.write_row.specs.Rows.{row_at}
use Rattle.write_head_row.proofs.Laws.{four_filled}
use Rattle.write_head_row.proofs.mapping_row.Goals as goal

pub put_text-requires : goal.put_text-requires
unfolding names name
put_text-requires c =
    let n : length c.args.t.mapping ≡ 4 = search rules in
    omega (arith, n, ap length c.blank_row-row.ensures)

pub returns : goal.returns
unfolding row_at
returns c =
    let t = c.args.t in
    four_filled (get_or names 8 []) _ c.blank_row-row.ensures _ t.mapping (search rules) c.put_text.ensures
