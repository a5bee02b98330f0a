-- Nodes that differ only where they have no weight give the same answer.
use mathlib.Core.Path.{◌≡◌, refl, sym, ap, ◌∙◌}
use mathlib.Core.Logic.{◌⊎◌, inl, inr, ⊎_elim}
use mathlib.Core.List.{List, [], ◌∷◌, map}
use Prim.Native.Nat.{ℕ, suc, ◌+◌}
use native.Mathlib.Nat.{zero-mul}
use lib.IntN.{ℤ, pos, negsuc, neg_ℤ, ◌+ℤ◌, ◌*ℤ◌}
use Rattle.kit.specs.Answer.{All}
use Rattle.mapset.specs.declared.Kind.{Kind}
use Rattle.ask_nodes.specs.Value.{value, or_zero}
use Rattle.ask_sums.specs.Mean.{Term, IsSome, Valued, weighted, weight, terms}
use Rattle.ask.specs.Ask.{Told, Guard, stop, go, Rounded}
use Rattle.ask_nodes.specs.declared.Weighed.{Weighed}
use Rattle.ask_nodes.specs.declared.Shape.{Shape}

-- the same weight, and the same value unless that is 0
abbrev pub Like : Term → Term → Type 0
Like t u = (t.0 ≡ u.0) × ((t.0 ≡ 0) ⊎ (t.1 ≡ u.1))

pub data LikeAll : List Term → List Term → Type 0 where
  like_end : LikeAll [] []
  like_next : {t u : Term} {ts us : List Term} → Like t u → LikeAll ts us → LikeAll (t ∷ ts) (u ∷ us)

like_back : (t u : Term) → Like t u → Like u t
like_back t u (e, o) = (sym e, ⊎_elim (λ z. inl (sym e ∙ z)) (λ v. inr (sym v)) o)

all_back : {ts us : List Term} → LikeAll ts us → LikeAll us ts
all_back like_end = like_end
all_back (like_next {t = t} {u = u} h l) = like_next (like_back t u h) (all_back l)

like_weight : {ts us : List Term} → LikeAll ts us → weight ts ≡ weight us
unfolding weight
like_weight like_end = refl
like_weight (like_next h l) = λ i. h.0 i + like_weight l i

nothing : (x : ℤ) → pos 0 *ℤ x ≡ pos 0
nothing (pos n) = ap pos (zero-mul n)
nothing (negsuc n) = ap (λ k. neg_ℤ (pos k)) (zero-mul (suc n))

weigh : (t u : Term) → Like t u → pos t.0 *ℤ or_zero t.1 ≡ pos u.0 *ℤ or_zero u.1
weigh t u (e, o) =
    ⊎_elim (λ z. ap (λ n. pos n *ℤ or_zero t.1) z ∙ nothing (or_zero t.1) ∙ sym (nothing (or_zero u.1)) ∙ ap (λ n. pos n *ℤ or_zero u.1) (sym z ∙ e))
    (λ v i. pos (e i) *ℤ or_zero (v i)) o

like_weighted : {ts us : List Term} → LikeAll ts us → weighted ts ≡ weighted us
unfolding weighted
like_weighted like_end = refl
like_weighted (like_next {t = t} {u = u} h l) = λ i. weigh t u h i +ℤ like_weighted l i

like_valued : {ts us : List Term} → LikeAll ts us → Valued ts → Valued us
like_valued like_end v = tt
like_valued (like_next {t = t} {u = u} (e, o) l) v = (one o v.0, like_valued l v.1)
  where
    one : (t.0 ≡ 0) ⊎ (t.1 ≡ u.1) → (t.0 ≡ 0) ⊎ IsSome t.1 → (u.0 ≡ 0) ⊎ IsSome u.1
    one (inl z) w = inl (sym e ∙ z)
    one (inr p) (inl z) = inl (sym e ∙ z)
    one (inr p) (inr s) = inr (rw p at s)

pub like_answer : (k : Kind) {ts us : List Term} (a : Told) → LikeAll ts us → Guard (Valued ts) 22 (Rounded k ts) a → Guard (Valued us) 22 (Rounded k us) a
like_answer k a l (stop n) = stop (λ v. n (like_valued (all_back l) v))
like_answer k a l (go v (x, (m, e))) = go (like_valued l v) (x, (rw (like_weighted l, like_weight l) at m, e))

-- ---- a node d maps later
abbrev pub later : ℕ → Weighed → Weighed
later d w = record { weight = w.weight; map = d + w.map; row = w.row; column = w.column }

module _ (s s' : Shape) (vs ks vs' ks' : List ℤ) (ms ms' : List ℕ) (d : ℕ) where
  abbrev pub Agrees : Weighed → Type 0
  Agrees w = value s vs ks ms w ≡ value s' vs' ks' ms' (later d w)

  pub like_terms : (ns : List Weighed) → All (λ w. (w.weight ≡ 0) ⊎ Agrees w) ns → LikeAll (terms s vs ks ms ns) (terms s' vs' ks' ms' (map (later d) ns))
  unfolding terms
  like_terms [] a = like_end
  like_terms (n ∷ ns) a = like_next (refl, a.0) (like_terms ns a.1)
