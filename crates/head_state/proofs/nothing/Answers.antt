use mathlib.Core.Path.{refl}
use Rattle.head_state.specs.Got.{slots_of, slot}
use Rattle.head_state.proofs.nothing.Goals as goal

pub returns : goal.returns
unfolding slots_of slot
returns c = (refl, refl, refl, refl)
