use mathlib.Core.Path.{refl}
use Rattle.reading.specs.Head.{made}
use Rattle.head_state.proofs.grid_of.Goals as goal

pub returns : goal.returns
unfolding made
returns c = rw (c.axis_in.ensures, c.axis_in-2.ensures, c.axis_in-3.ensures) refl
