-- `read_outcome::refused` meets its contract.
use mathlib.Core.Path.{refl, ap}
use Rattle.mapset.specs.Described.{full}
use Rattle.mapset.specs.Lines.{no_lines}
use Rattle.read_outcome.proofs.refused.Goals as goal

pub returns : goal.returns
unfolding no_lines
returns c = (refl, ap (λ t. full t no_lines) c.blanks.ensures)
