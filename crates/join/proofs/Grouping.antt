-- Any number of map sets, joined in any grouping: what is given does not depend on it.
use mathlib.Core.Path.{◌≡◌, refl, sym, subst, ◌∙◌}
use mathlib.Core.List.{List, [], ◌∷◌, ◌++◌}
use Prim.Native.Nat.{ℕ}
use Rattle.kit.specs.Answer.{Answer, ok, refused, bind}
use Rattle.mapset.specs.MapSet.{MapSet}
use Rattle.join.specs.Join.{join, Agree, both_given, both_refused}
use Rattle.join.specs.Grouping.{Grouping, one, both, result, first, after, chain}
use Rattle.join.proofs.EitherWay.{either_way}

-- ---- laws of answers

module _ {A : Type 0} where
  agrees : (o : Answer ℕ A) → Agree o o
  agrees (ok x) = both_given
  agrees (refused w) = both_refused

  same : {o p : Answer ℕ A} → o ≡ p → Agree o p
  same {o} e = subst (λ p. Agree o p) e (agrees o)

  back : {o p : Answer ℕ A} → Agree o p → Agree p o
  back both_given = both_given
  back both_refused = both_refused

  past : {o p q : Answer ℕ A} → Agree o p → Agree p q → Agree o q
  past both_given h = h
  past both_refused both_refused = both_refused

  on : {B : Type 0} {o p : Answer ℕ B} {f g : B → Answer ℕ A} → Agree o p → ((x : B) → Agree (f x) (g x)) → Agree (bind o f) (bind p g)
  unfolding bind
  on (both_given {x = x}) h = h x
  on both_refused h = both_refused

  bind_bind : {B D : Type 0} (o : Answer ℕ D) (f : D → Answer ℕ B) (g : B → Answer ℕ A) → bind (bind o f) g ≡ bind o (λ x. bind (f x) g)
  unfolding bind
  bind_bind (ok x) f g = refl
  bind_bind (refused w) f g = refl

  bind_ok : (o : Answer ℕ A) → bind o (λ x. ok x) ≡ o
  unfolding bind
  bind_ok (ok x) = refl
  bind_ok (refused w) = refl

-- ---- the theorem

chain_append : (a : MapSet) (bs cs : List MapSet) → chain a (bs ++ cs) ≡ bind (chain a bs) (λ x. chain x cs)
unfolding chain bind
chain_append a [] cs = refl
chain_append a (b ∷ bs) cs = (λ i. bind (join a b) (λ ab. chain_append ab bs cs i)) ∙ sym (bind_bind (join a b) (λ ab. chain ab bs) (λ x. chain x cs))

join_chain : (x c : MapSet) (ds : List MapSet) → Agree (bind (chain c ds) (λ y. join x y)) (chain x (c ∷ ds))
unfolding chain bind
join_chain x c [] = same (sym (bind_ok (join x c)))
join_chain x c (d ∷ ds) =
    past (same (bind_bind (join c d) (λ cd. chain cd ds) (λ y. join x y)))
    (past (on (agrees (join c d)) (λ cd. join_chain x cd ds))
    (past (same (sym (bind_bind (join c d) (λ cd. join x cd) (λ w. chain w ds))))
    (past (on (back (either_way x c d)) (λ w. agrees (chain w ds)))
    (same (bind_bind (join x c) (λ xc. join xc d) (λ w. chain w ds))))))

pub any_grouping : (t : Grouping) → Agree (result t) (chain (first t) (after t))
unfolding result chain
any_grouping (one a) = both_given
any_grouping (both s t) =
    past (on (any_grouping s) (λ a. on (any_grouping t) (λ b. agrees (join a b))))
    (past (on (agrees (chain (first s) (after s))) (λ a. join_chain a (first t) (after t)))
    (same (sym (chain_append (first s) (after s) (first t ∷ after t)))))

-- two groupings of the same sets agree
pub groupings : (s t : Grouping) → first s ≡ first t → after s ≡ after t → Agree (result s) (result t)
groupings s t p q = past (any_grouping s) (rw (p, q) (back (any_grouping t)))
