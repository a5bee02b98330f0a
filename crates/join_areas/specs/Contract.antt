-- The contract of `join` as a relation, and what comes of it where a set is given.
use Rattle.std.specs.Prelude.{◌≡◌, Result}
use Rattle.mapset.specs.Areas.{Areas}
use Rattle.join.specs.Join.{joined}
use Rattle.join.specs.Into.{Lent, lent, meaning, join_into, MayLent}
use Rattle.join_areas.specs.Joined.{comes, came}
use Rattle.mapset.specs.declared.Header.{Header}
use Rattle.join_areas.specs.declared.Refusal.{Refusal}

-- of two lent sets and the areas l it hands back r and leaves the areas l'
abbrev pub Joins : (earlier later : Lent) → Areas → Result Header Refusal → Areas → Type 0
Joins x y l r l' = comes r y.texts l' ≡ came (join_into x y l) l

-- u is the joined set in front of the areas l, and the two may be joined
pub record Given (x y : Lent) (l : Areas) (u : Lent) : Type 0 where
  pub may : MayLent x y
  pub set : u ≡ lent (joined (meaning x) (meaning y)) l
