-- The order of the list does not matter.
use mathlib.Core.Path.{◌≡◌, refl, sym, ap, ap₂, ◌∙◌}
use mathlib.Core.List.{List, [], ◌∷◌, ◌++◌, Permᴰ}
use Rattle.week_tally.specs.Gathered.{gathered, Combines}

module _ {X : Type 0} {f : X → X → X} {e : X} (c : Combines f e) where
  gathered_append : (l m : List X) → gathered f e (l ++ m) ≡ f (gathered f e l) (gathered f e m)
  unfolding gathered
  gathered_append [] m = sym (c.neutral (gathered f e m))
  gathered_append (x ∷ l) m = ap (f x) (gathered_append l m) ∙ sym (c.assoc x (gathered f e l) (gathered f e m))

  turned : (x y z : X) → f x (f y z) ≡ f y (f x z)
  turned x y z = sym (c.assoc x y z) ∙ ap (λ (w : X). f w z) (c.comm x y) ∙ c.assoc y x z

  pub gathered_permuted : {l m : List X} → Permᴰ l m → gathered f e l ≡ gathered f e m
  unfolding gathered
  gathered_permuted Permᴰ.nil = refl
  gathered_permuted (Permᴰ.cons p d) = ap₂ f p (gathered_permuted d)
  gathered_permuted (Permᴰ.swap {a} {b} {l = l} p q) = turned a b (gathered f e l) ∙ (λ i. f (q i) (f (p i) (gathered f e l)))
  gathered_permuted (Permᴰ.trans d d') = gathered_permuted d ∙ gathered_permuted d'
