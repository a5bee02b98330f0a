-- `week_tally::with_node` meets its contract.
use Rattle.week_tally.proofs.SeenLaws.{holds_none}
use Rattle.week_tally.proofs.with_node.Goals as goal

pub returns-in-None : goal.returns-in-None
returns-in-None c = rw c.in-None.is (λ t h. holds_none t c.args.s h)
