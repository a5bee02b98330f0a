use mathlib.Core.List.{[], ◌∷◌}
use Rattle.c_header.proofs.SetLaws.{sets_front}
use Rattle.c_answers.proofs.put_count.Goals as goal

pub returns : goal.returns
returns c = sets_front (c.args.n ∷ []) c.args.out.now c.requires
