use mathlib.Core.List.{[], ◌∷◌}
use lib.ListN.{length-set}
use Rattle.c_header.proofs.SetLaws.{sets_front}
use borrow.Author.Rules.{rules}
use Rattle.c_answers.proofs.put_record.Goals as goal

pub bounds-out-1 : goal.bounds-out-1
bounds-out-1 c = simp length-set (search rules)

pub returns : goal.returns
returns c =
    let d = c.args.d in
    sets_front (d.carrier ∷ d.tecu ∷ d.metres ∷ []) c.args.out.now c.requires
