-- `write_row::node`: where a node has a place in its columns, it fits an i32.
use mathlib.Core.Path.{◌≡◌, ◌∙◌}
use lib.IntN.{pos, ◌+ℤ◌, ◌*ℤ◌}
use mir.Syntax.{w64}
use mir.Val.{to_z, of_z}
use mir.Facts.{to_z-of_z}
use borrow.Author.Rules.{rules}
use Rattle.write_row.proofs.NumberLaws.{wide_fits}
use Rattle.write_row.proofs.node.Statement.{statement}
use Rattle.write_row.proofs.node.Tie as tie

node_is : (c : tie.After-node) → to_z w64 (of_z w64 c.node.result) ≡ c.args.a.first +ℤ pos c.args.i *ℤ c.args.a.step
node_is c = to_z-of_z {w = w64} (record { sfits = c.node.type_inv }) ∙ c.node.ensures

node-requires : tie.Need-node-requires
node-requires c κs = search rules

cast-result : tie.Need-overflow_cast-result
cast-result c = rw (node_is c) (wide_fits _ c.requires.1)

returns : tie.Need-returns
returns c = rw (node_is c) (to_z-of_z (wide_fits _ c.requires.1))

pub node_spec : {M : Type 1} → statement M
node_spec = tie.close (tie.spec node-requires cast-result returns)
