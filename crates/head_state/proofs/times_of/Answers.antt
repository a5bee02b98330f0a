use mathlib.Core.Path.{refl}
use Rattle.reading.specs.Head.{made}
use Rattle.head_state.proofs.times_of.Goals as goal

pub returns : goal.returns
unfolding made
returns c = rw (c.second_in.ensures, c.second_in-2.ensures, c.number_in.ensures, c.number_in-2.ensures) refl
