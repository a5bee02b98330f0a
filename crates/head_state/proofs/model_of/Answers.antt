use mathlib.Core.Path.{refl}
use Rattle.reading.specs.Head.{made}
use Rattle.head_state.proofs.model_of.Goals as goal

pub returns : goal.returns
unfolding made
returns c = rw (c.number_in.ensures, c.number_in-2.ensures, c.number_in-3.ensures) refl
