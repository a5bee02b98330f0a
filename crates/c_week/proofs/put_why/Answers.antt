-- `c_week::put_why` meets its contract, each number in words, so that another one is seen to differ.
use mathlib.Core.Path.{refl}
use mathlib.Core.List.{[], ◌∷◌}
use Rattle.c_header.proofs.SetLaws.{sets_front}
use Rattle.c_week.proofs.put_why.Goals as goal

pub returns-in-Full : goal.returns-in-Full
returns-in-Full c = rw c.in-Full.is (refl, refl)

pub returns-in-Invalid : goal.returns-in-Invalid
returns-in-Invalid c = rw c.in-Invalid.is (refl, refl)

pub returns-in-Short : goal.returns-in-Short
returns-in-Short c = let s = c.before in rw c.in-Short.is (refl, sets_front (1 ∷ c.in-Short.need ∷ []) s.args.place.now s.requires)
