-- `write_head_row::program_row` meets its contract.
use mathlib.Core.Path.{◌≡◌, ap}
use mathlib.Core.List.{[]}
use native.Mathlib.Omega.{arith}
use lib.ListN.{length, get_or}
use borrow.Author.Rules.{rules}
use Rattle.layout.specs.Labels.{name}
use Rattle.layout.specs.Names.{names}
use Rattle.write_row.specs.Rows.{row_at}
use Rattle.write_head_row.proofs.Laws.{twenties_filled}
use Rattle.write_head_row.proofs.program_row.Goals as goal

pub put_text-requires : goal.put_text-requires
unfolding names name
put_text-requires c =
    let n : length c.args.t.program ≡ 20 = search rules in
    omega (arith, n, ap length c.blank_row-row.ensures)

pub put_text-requires-2 : goal.put_text-requires-2
put_text-requires-2 c =
    let n : length c.args.t.agency ≡ 20 = search rules in
    let m : 80 ≡ length c.put_text.new.line = search rules in
    omega (arith, n, m)

pub put_text-requires-3 : goal.put_text-requires-3
put_text-requires-3 c =
    let n : length c.args.t.date ≡ 20 = search rules in
    let m : 80 ≡ length c.put_text-2.new.line = search rules in
    omega (arith, n, m)

pub returns : goal.returns
unfolding row_at
returns c =
    let t = c.args.t in
    let e1 = c.put_text.ensures in
    let e2 = c.put_text-2.ensures in
    let e3 = c.put_text-3.ensures in
    twenties_filled (get_or names 1 []) _ c.blank_row-row.ensures _ _ _ t.program t.agency t.date (search rules) (search rules) (search rules) e1 e2 e3
