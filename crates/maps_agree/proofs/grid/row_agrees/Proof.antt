use mathlib.Core.Path.{◌≡◌, ◌∙◌}
use Prim.Native.Nat.{◌*◌, ◌%◌, ◌≤◌}
use native.Mathlib.Nat.{mul-le-mul, mod-le}
use native.Mathlib.Omega.{arith}
use mir.Facts.{to_z-of_z}
use Rattle.kit.specs.Integer.{int?}
use Rattle.kit.specs.Truth.{truth}
use Rattle.mapset.specs.Grid.{layers, rows}
use Rattle.layout.specs.Layout.{node}
use borrow.Author.Rules.{rules}
use Rattle.maps_agree.proofs.grid.row_agrees.Statement.{statement}
use Rattle.maps_agree.proofs.grid.row_agrees.Tie as tie

-- the blocks of a layer are its rows
rows_in : (c : tie.After-nodes) → c.nodes.result ≡ rows c.args.grid
rows_in c = c.nodes.ensures

few : (c : tie.After-passed) → c.passed.result ≤ 64 * 361
few c =
    let g = c.args.grid in
    let p : layers g * rows g ≤ 64 * 361 = mul-le-mul c.requires.0 c.requires.1 in
    omega (arith, c.passed.ensures)

passed-requires : tie.Need-passed-requires
passed-requires c κs = search rules

nodes-requires : tie.Need-nodes-requires
nodes-requires c κs = search rules

rem-i : tie.Need-nonzero_rem-i
rem-i c = search rules

is-node-requires : tie.Need-is_node-requires
is-node-requires c κs = omega (arith, few c.before.before.before, mod-le c.passed.result c.nodes.result)

returns : tie.Need-returns
returns c =
    let s = c.before.before.before in
    c.is_node.ensures
    ∙ (λ j. truth (int? (to_z-of_z s.ranges.x j) (node s.args.grid.latitudes (c.passed.ensures j % rows_in c.before.before j))))

pub row_agrees_spec : {M : Type 1} → statement M
row_agrees_spec = tie.close (tie.spec passed-requires nodes-requires rem-i is-node-requires returns)
