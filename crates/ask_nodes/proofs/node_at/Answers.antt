-- `ask_nodes::node_at` meets its contract.
use borrow.Author.Rules.{rules}
use mathlib.Core.Path.{◌≡◌, sym, ap, ap₂, ◌∙◌}
use Prim.Native.Nat.{◌+◌, ◌*◌}
use lib.IntN.{ℤ, pos}
use lib.ListN.{get_or}
use Rattle.kit.proofs.TruthLaws.{truth_true, truth_false}
use Rattle.ask_nodes.specs.Value.{kind_of, value}
use Rattle.ask_nodes.specs.Nodes.{plain}
use Rattle.ask_nodes.specs.Units.{in_node}
use Rattle.ask_nodes.proofs.NodeLaws.{worth_absent, worth_present}
use Rattle.ask_nodes.proofs.node_at.Goals as goal

pub returns-then-not-is_present : goal.returns-then-not-is_present
unfolding value
returns-then-not-is_present c =
    ap (in_node (kind_of c.args.s.kind)) (worth_absent (kind_of c.args.s.kind) _ _ _ (truth_false _ (sym c.is_present.ensures ∙ c.if-not-is_present.true)))

pub bounds-values-number : goal.bounds-values-number
bounds-values-number c = rw c.block_of-block.ensures (c.requires.number (truth_true _ (sym c.is_present.ensures ∙ c.if-not-is_present.false)))

pub returns : goal.returns
unfolding value
returns c =
    let s = c.args.s in
    let b = c.block_of-block.result in
    let e : c.node_of.result ≡ in_node (kind_of s.kind) (plain (get_or c.args.values.now (b * s.columns + c.args.n.column) (pos 0)) (get_or c.args.exponents.now (c.first_exponent.result + b) (pos 0))) =
    c.node_of.ensures ∙ ap₂ (λ (x y : ℤ). in_node (kind_of s.kind) (plain x y)) (search rules) (search rules) in
    e ∙ (rw (c.block_of-block.ensures, c.first_exponent.ensures) (ap (in_node (kind_of s.kind)) (worth_present (kind_of s.kind) _ _ _ (truth_true _ (sym c.is_present.ensures ∙ c.if-not-is_present.false)))))
