-- `ask_sums::nth_node` meets its contract.
use mathlib.Core.Path.{sym, ◌∙◌}
use Rattle.ask_sums.proofs.SumLaws.{early_node, late_node}
use Rattle.ask_sums.proofs.nth_node.Goals as goal

pub returns-then-k-lt4 : goal.returns-then-k-lt4
returns-then-k-lt4 c = c.corner_of.ensures ∙ sym (early_node c.args.shares c.args.first c.args.second c.args.k c.if-k-lt4.true)

pub returns : goal.returns
returns c = c.corner_of-2.ensures ∙ sym (late_node c.args.shares c.args.first c.args.second c.args.k c.if-k-lt4.false)
