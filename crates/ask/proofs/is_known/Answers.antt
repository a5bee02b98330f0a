-- `ask::is_known` meets its contract.
use native.Mathlib.Decide.{dec_lt}
use Rattle.kit.proofs.TruthLaws.{both, lt_tells}
use Rattle.ask.proofs.is_known.Goals as goal

pub returns : goal.returns
returns c = both (dec_lt c.args.kind 3) (dec_lt c.args.method 4) (lt_tells _ _) (lt_tells _ _)
