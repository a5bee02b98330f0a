-- `write_row::opening_row` meets its contract.
use mathlib.Core.Path.{◌∙◌}
use mir.Syntax.{w32}
use mir.Val.{SFits}
use mir.Facts.{to_z-of_z}
use borrow.Author.Rules.{rules}
use Rattle.write_row.proofs.OpeningLaws.{latitude_placed, height_placed, opening_filled}
use Rattle.write_row.proofs.RowLaws.{block_filled}
use Rattle.write_row.proofs.opening_row.Statement.{statement}
use Rattle.write_row.proofs.opening_row.Tie as tie

module _ (s : tie.Start) where
  first_fits : SFits w32 s.args.grid.longitudes.first
  first_fits = search rules

  last_fits : SFits w32 s.args.grid.longitudes.last
  last_fits = search rules

  step_fits : SFits w32 s.args.grid.longitudes.step
  step_fits = search rules

nodes-requires : tie.Need-nodes-rows-requires
nodes-requires c κs = search rules

rem-node : tie.Need-nonzero_rem-d
rem-node c = search rules

node-requires : tie.Need-node-latitude-requires
node-requires c κs =
    let s = c.before in
    latitude_placed s.args.grid s.args.d c.nodes-rows.result c.nodes-rows.ensures s.requires

div-node : tie.Need-nonzero_div-d
div-node c = search rules

node-requires-2 : tie.Need-node-height-requires
node-requires-2 c κs =
    let s = c.before.before in
    height_placed s.args.grid s.args.d c.nodes-rows.result c.nodes-rows.ensures s.requires

three-row-requires : tie.Need-three_row-row-requires
three-row-requires c κs = search rules

slice-aggregate-put-tenths : tie.Need-slice_bounds-put_tenths-end
slice-aggregate-put-tenths c = search rules

put-tenths-requires : tie.Need-put_tenths-requires
put-tenths-requires c κs = search rules

slice-aggregate-put-tenths-2 : tie.Need-slice_bounds-put_tenths-end-2
slice-aggregate-put-tenths-2 c = search rules

put-tenths-requires-2 : tie.Need-put_tenths-requires-2
put-tenths-requires-2 c κs = search rules

returns : tie.Need-returns
returns c =
    let s = c.before.before.before.before.before.before.before.before.before.before.before.before.before in
    let g = s.args.grid in
    opening_filled g s.args.d c.nodes-rows.result c.nodes-rows.ensures _ _ _ _ _ _
    (block_filled _ _ _ _ _ _ _ _ c.three_row-row.ensures c.put_tenths.ensures c.put_tenths-2.ensures)
    (to_z-of_z {w = w32} (record { sfits = c.node-latitude.type_inv }) ∙ c.node-latitude.ensures)
    (to_z-of_z (first_fits s.before.before.before))
    (to_z-of_z (last_fits s.before.before.before))
    (to_z-of_z (step_fits s.before.before.before))
    (to_z-of_z {w = w32} (record { sfits = c.node-height.type_inv }) ∙ c.node-height.ensures)

pub opening_row_spec : {M : Type 1} → statement M
opening_row_spec = tie.close (tie.spec nodes-requires rem-node node-requires div-node node-requires-2 three-row-requires slice-aggregate-put-tenths put-tenths-requires slice-aggregate-put-tenths-2 put-tenths-requires-2 returns)
