use mathlib.Core.Path.{◌≡◌}
use Prim.Native.Nat.{◌+◌, ◌*◌, ◌≤◌}
use Rattle.mapset.specs.Grid.{rows}
use native.Mathlib.Nat.{mul-le-mul}
use native.Mathlib.Omega.{arith}
use mathlib.Core.Path.{ap}
use borrow.Author.Rules.{rules}
use Rattle.index_node.proofs.done_before.Statement.{statement}
use Rattle.index_node.proofs.done_before.Tie as tie

few : (c : tie.After-nodes) → c.args.layer * c.nodes.result ≤ 23104
few c =
    let b = c.before in
    let e : b.args.layer * c.nodes.result ≡ b.args.layer * rows b.args.header.grid = ap (λ n. b.args.layer * n) c.nodes.ensures in
    omega (arith, e, mul-le-mul b.requires.0 b.requires.1.1)

nodes-requires : tie.Need-nodes-requires
nodes-requires c κs = search rules

mul-result : tie.Need-overflow_mul-result
mul-result c = omega (arith, few c)

add-result : tie.Need-overflow_add-result
add-result c = omega (arith, few c)

returns : tie.Need-returns
returns c = ap (λ n. c.args.layer * n + c.args.row) c.nodes.ensures

pub done_before_spec : {M : Type 1} → statement M
done_before_spec = tie.close (tie.spec nodes-requires mul-result add-result returns)
