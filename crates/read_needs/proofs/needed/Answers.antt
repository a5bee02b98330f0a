use mathlib.Core.Path.{refl}
use Rattle.read_needs.proofs.needed.Goals as goal

pub returns : goal.returns
returns c = rw (c.if_stands.ensures, c.if_stands-2.ensures) refl
