use mathlib.Core.Path.{◌≡◌, ap, ap₂, ◌∙◌}
use Prim.Native.Nat.{ℕ, ◌*◌, ◌/◌, ◌≤◌}
use native.Mathlib.Nat.{mul-le-mul, div-le_self}
use native.Mathlib.Omega.{arith}
use mir.Facts.{to_z-of_z}
use Rattle.kit.specs.Integer.{int?}
use Rattle.kit.specs.Truth.{truth}
use Rattle.mapset.specs.Grid.{layers, rows}
use Rattle.layout.specs.Layout.{node}
use Rattle.maps_agree.proofs.GridLaws.{any_height, this_height}
use borrow.Author.Rules.{rules}
use Rattle.maps_agree.proofs.grid.height_agrees.Statement.{statement}
use Rattle.maps_agree.proofs.grid.height_agrees.Tie as tie

few : (c : tie.After-passed) → c.passed.result ≤ 64 * 361
few c =
    let g = c.args.grid in
    let p : layers g * rows g ≤ 64 * 361 = mul-le-mul c.requires.0 c.requires.1 in
    omega (arith, c.passed.ensures)

returns : tie.Need-returns-then-dimension-eq2
returns c = any_height _ _ _ c.if-dimension-eq2.true

passed-requires : tie.Need-passed-requires
passed-requires c κs = search rules

nodes-requires : tie.Need-nodes-requires
nodes-requires c κs = search rules

div-i : tie.Need-nonzero_div-i
div-i c = search rules

is-node-requires : tie.Need-is_node-requires
is-node-requires c κs = omega (arith, few c.before.before.before, div-le_self c.passed.result c.nodes.result)

-- what is compared is a node of the heights
of_heights : (c : tie.After-is_node) → let a = c.args in
    c.is_node.result ≡ truth (int? a.x (node a.grid.heights (c.passed.result / c.nodes.result)))
of_heights c =
    let s = c.before.before.before.before in
    c.is_node.ensures ∙ (λ j. truth (int? (to_z-of_z s.ranges.x j) (node s.args.grid.heights (c.passed.result / c.nodes.result))))

returns-2 : tie.Need-returns
returns-2 c =
    let a = c.args in
    of_heights c
    ∙ ap (λ (i : ℕ). truth (int? a.x (node a.grid.heights i))) (ap₂ ◌/◌ c.passed.ensures c.nodes.ensures)
    ∙ this_height _ _ _ c.if-dimension-eq2.false

pub height_agrees_spec : {M : Type 1} → statement M
height_agrees_spec = tie.close (tie.spec returns passed-requires nodes-requires div-i is-node-requires returns-2)
