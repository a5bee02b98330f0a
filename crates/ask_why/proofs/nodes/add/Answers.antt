-- `ask_why::nodes::add` meets its contract.
use mathlib.Core.Path.{sym, ap, ◌∙◌}
use Rattle.std.specs.Prelude.{Option}
use Rattle.ask_nodes.specs.declared.Value.{Value}
use Rattle.ask_why.specs.Parts.{node_with, put}
use Rattle.ask_why.specs.declared.Needed.{Needed}
use Rattle.ask_why.proofs.NodeList.{add_none, add_some}
use Rattle.ask_why.proofs.nodes.add.Goals as goal

pub returns-then-n-eq0 : goal.returns-then-n-eq0
returns-then-n-eq0 c = let a = c.args in sym (add_none a.s a.values.now a.exponents.now a.marks.now a.l.now a.n c.if-n-eq0.true)

pub returns : goal.returns
returns c =
    let a = c.args in
    c.put.ensures ∙ ap (λ (x : Needed). put a.l.now x) (c.listed.ensures ∙ ap (λ (v : Option Value). node_with a.n a.s.layer v) c.node_at.ensures)
    ∙ sym (add_some a.s a.values.now a.exponents.now a.marks.now a.l.now a.n c.if-n-eq0.false)
