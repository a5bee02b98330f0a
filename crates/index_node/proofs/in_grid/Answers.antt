use lib.Dec.{ltb}
use native.Mathlib.Omega.{arith}
use Rattle.index_node.proofs.AskLaws.{less_decides, column_decides}
use Rattle.index_node.proofs.in_grid.Goals as goal

pub returns : goal.returns
returns c = let e4 = c.before in let e3 = e4.before.before in let e2 = e3.before.before in let a = e2.args in column_decides a.header a.map a.layer a.row a.column (omega (arith, e2.if-map-lt1.false), omega (arith, e2.if-header-map.false)) (omega (arith, e3.if-nodes-layer.false, e3.nodes.ensures)) (omega (arith, e4.if-nodes-row.false, e4.nodes-2.ensures)) (ltb a.column c.nodes-3.result) (less_decides a.column c.nodes-3.result _ c.nodes-3.ensures)
