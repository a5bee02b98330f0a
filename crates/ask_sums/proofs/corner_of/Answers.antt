-- `ask_sums::corner_of` meets its contract.
use mathlib.Core.Path.{sym, ap, ◌∙◌}
use Prim.Native.Nat.{ℕ}
use native.Mathlib.Omega.{arith}
use lib.ListN.{get_or}
use Rattle.ask_nodes.specs.Value.{corner}
use Rattle.ask_sums.specs.Sums.{four}
use Rattle.ask_sums.proofs.SumLaws.{plain_node, strip_node}
use Rattle.ask_sums.proofs.corner_of.Goals as goal

pub returns-then-c : goal.returns-then-c
returns-then-c c =
    let a = c.args in
    c.cell_node.ensures ∙ ap (λ (k : ℕ). get_or (four a.share a.map a.c) k (corner 0 0 0 0)) c.other.ensures ∙ sym (strip_node a.share a.map a.c a.k c.requires.1 c.if-c.true)

pub returns : goal.returns
returns c = c.cell_node-2.ensures ∙ sym (plain_node c.args.share c.args.map c.args.c c.args.k (λ p. omega (arith, p, c.if-c.false)))
