use mathlib.Core.Path.{refl}
use Rattle.reading.specs.Head.{made}
use Rattle.head_state.proofs.header_of.Goals as goal

pub returns : goal.returns
unfolding made
returns c = rw (c.times_of.ensures, c.model_of.ensures, c.grid_of.ensures, c.counted_in.ensures, c.counted_in-2.ensures, c.systems_of.ensures) refl
