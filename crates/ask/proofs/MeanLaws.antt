-- The mean as it is told: in the kind's unit, and the one that the rules give.
use mathlib.Core.Path.{◌≡◌, refl}
use mathlib.Core.List.{List, [], ◌∷◌}
use mathlib.Core.Option.{Option, none, some}
use Prim.Native.Nat.{ℕ, ◌<◌}
use native.Mathlib.Omega.{arith}
use native.Mathlib.Nat.{zero-add}
use lib.IntN.{ℤ, pos, +ℤ_idl}
use native.Mathlib.Decide.{ℕ_discrete}
use Rattle.kit.specs.Answer.{pick, all_dec, ⊎_dec}
use Rattle.kit.proofs.AnswerLaws.{pick_elim}
use Rattle.mapset.specs.declared.Kind.{Kind}
use Rattle.mapset.specs.declared.Kind.TheVariants.{Tec as tec, Rms as rms, Height as height}
use Rattle.ask_round.specs.Rounded.{rounded}
use Rattle.ask_round.proofs.RoundLaws.{round_nearest}
use Rattle.ask_sums.specs.Mean.{Term, Valued, weighted, weight}
use Rattle.ask_sums.specs.Sums.{valued?, mean, in_sum, add_all}
use Rattle.ask_sums.proofs.SumLaws.{valued_sum, lacking_sum}
use Rattle.ask.specs.Ask.{tecu, in_unit, Guard, stop, go, Rounded}
use Rattle.ask.specs.Summed.{in_told, told_sum}

-- the first map's four nodes come to 1/2 and the second's to 0, in equal parts 1/4: rounded once it is 0, rounded in each map and again it would be 1
eight : List Term
eight = (1, some (pos 0)) ∷ (1, some (pos 1)) ∷ (0, none) ∷ (0, none) ∷ (1, some (pos 0)) ∷ (1, some (pos 0)) ∷ (0, none) ∷ (0, none) ∷ []

rounds_once : Rounded tec eight (tecu (pos 0))
unfolding eight weighted weight rounded mean valued? pick all_dec ⊎_dec ℕ_discrete
rounds_once = (_, (round_nearest _ _ (omega arith), refl))

-- the computed mean is the one that the rules give
pub mean_is : (k : Kind) (ts : List Term) → 0 < weight ts → Guard (Valued ts) 22 (Rounded k ts) (in_told k (mean ts))
unfolding mean
mean_is k ts h =
    pick_elim (λ (o : Option ℤ). Guard (Valued ts) 22 (Rounded k ts) (in_told k o)) (valued? ts)
    (λ a. go a (rounded (weighted ts) (weight ts), (round_nearest (weighted ts) (weight ts) h, refl)))
    (λ n. stop n)

-- a sum node by node comes to it, in the kind's unit
told_in : (k : Kind) (t : ℤ) (u : ℕ) → told_sum (in_sum k t u) ≡ in_unit k (rounded t u)
told_in tec t u = refl
told_in rms t u = refl
told_in height t u = refl

pub sum_told : (k : Kind) (ts : List Term) → told_sum (add_all k (in_sum k (pos 0) 0) ts) ≡ in_told k (mean ts)
unfolding mean
sum_told k ts =
    pick_elim (λ (o : Option ℤ). told_sum (add_all k (in_sum k (pos 0) 0) ts) ≡ in_told k o) (valued? ts)
    (λ a. rw (valued_sum k ts a (pos 0) 0, +ℤ_idl (weighted ts), zero-add) (told_in k _ _))
    (λ n. rw (lacking_sum k ts n (pos 0) 0) refl)
