use mathlib.Core.Path.{refl}
use Rattle.reading.specs.Head.{made}
use Rattle.head_state.proofs.systems_of.Goals as goal

pub returns : goal.returns
unfolding made
returns c = rw (c.system_in.ensures, c.system_in-2.ensures, c.system_in-3.ensures, c.system_in-4.ensures, c.system_in-5.ensures, c.system_in-6.ensures, c.system_in-7.ensures) refl
