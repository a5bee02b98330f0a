-- `sound_header::within` meets its contract.
use Rattle.kit.specs.Range.{within?}
use Rattle.kit.proofs.TruthLaws.{both, le_tells}
use native.Mathlib.Decide.{dec_le}
use Rattle.sound_header.proofs.within.Goals as goal

pub returns : goal.returns
unfolding within?
returns c = both (dec_le c.args.low c.args.x) (dec_le c.args.x c.args.high) (le_tells _ _) (le_tells _ _)
