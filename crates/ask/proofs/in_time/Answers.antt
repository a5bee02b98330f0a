-- `ask::in_time` meets its contract.
use native.Mathlib.Decide.{dec_le}
use Rattle.kit.specs.Range.{within?}
use Rattle.kit.proofs.TruthLaws.{both, le_tells}
use Rattle.ask.proofs.in_time.Goals as goal

pub returns : goal.returns
unfolding within?
returns c = let s = c.args in both (dec_le s.times.first s.second) (dec_le s.second s.times.last) (le_tells _ _) (le_tells _ _)
