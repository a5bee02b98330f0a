use mathlib.Core.Path.{refl}
use mathlib.Core.List.{[], ◌∷◌}
use Rattle.c_header.proofs.SetLaws.{sets_front}
use Rattle.c_answers.proofs.put_moved.Goals as goal

pub returns-in-Some : goal.returns-in-Some
returns-in-Some c = rw c.in-Some.is (refl, sets_front (c.in-Some.t ∷ []) c.args.out.now c.requires)

pub returns-in-None : goal.returns-in-None
returns-in-None c = rw c.in-None.is (refl, refl)
