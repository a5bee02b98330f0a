use mathlib.Core.List.{[], ◌∷◌}
use mir.Facts.{to_z-of_z}
use Rattle.c_header.proofs.SetLaws.{sets_front}
use Rattle.c_answers.proofs.put_value.Goals as goal

pub returns : goal.returns
returns c = rw (to_z-of_z c.ranges.v) (sets_front (c.args.v ∷ []) c.args.out.now c.requires)
