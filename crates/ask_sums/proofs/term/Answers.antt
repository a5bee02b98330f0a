-- `ask_sums::term` meets its contract.
use Rattle.ask_nodes.specs.Value.{kind_of, value}
use Rattle.ask_nodes.proofs.NodeLaws.{small_value}
use Rattle.ask_sums.proofs.SumLaws.{small_node}
use Rattle.ask_sums.proofs.term.Goals as goal

pub add-requires : goal.add-requires
add-requires c =
    let a = c.args in
    (c.requires.0, small_node (kind_of a.s.kind) (value a.s a.values.now a.exponents.now a.marks.now a.n) c.node_at.ensures (small_value a.s a.values.now a.exponents.now a.marks.now a.n))
