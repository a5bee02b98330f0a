-- Joining has no second answer; a refusal leaves all areas as found; and what is given is the joined set in front of the areas.
use mathlib.Core.Path.{◌≡◌, refl, sym, ap, ◌∙◌}
use mathlib.Core.Option.{Option, none, some}
use Prim.Native.Nat.{ℕ}
use native.Mathlib.Decide.{ℕ_discrete}
use native.Mathlib.Omega.{arith}
use Rattle.kit.specs.Answer.{Answer, ok, refused, bind, pick}
use Rattle.mapset.specs.declared.Header.{Header}
use Rattle.mapset.specs.MapSet.{MapSet}
use Rattle.mapset.specs.Areas.{Areas}
use Rattle.areas.specs.Flat.{areas}
use Rattle.read_needs.specs.Needs.{needed_and_lent, first_short}
use Rattle.join.specs.Join.{joined}
use Rattle.join.specs.Into.{Lent, lent_of, lent, meaning, Why, because, short, with_room, lent_join, join_into, left}
use Rattle.join.proofs.IntoExactly.{LentJoins, not_valid, not_alike, not_met, too_many, given, lent_exactly}
use Rattle.join_areas.specs.Joined.{told_why, comes}
use Rattle.join_areas.specs.Contract.{Joins, Given}
use Rattle.join_areas.specs.declared.Refusal.{Refusal}
use Rattle.join_areas.specs.declared.Refusal.TheVariants.{NotValid, Unlike, Apart, TooMany, AreaTooShort}
use Rattle.std.specs.Prelude.{Result, Ok, Err}

-- ---- no second answer
unfoldable reason : ℕ → Refusal
reason n = pick (ℕ_discrete n 31) NotValid (pick (ℕ_discrete n 40) Unlike (pick (ℕ_discrete n 41) Apart TooMany))

abbrev back_why : Why → Refusal
back_why (because n) = reason n
back_why (short a n) = AreaTooShort a n

abbrev back : Answer Why Lent → Result Header Refusal
back (ok u) = Ok u.header
back (refused w) = Err (back_why w)

back_told : (w : Refusal) → back_why (told_why w) ≡ w
unfolding reason pick ℕ_discrete
back_told NotValid = refl
back_told Unlike = refl
back_told Apart = refl
back_told TooMany = refl
back_told (AreaTooShort a n) = refl

module _ (x y : Lent) (l : Areas) where
  told_is : (r : Result Header Refusal) (l' : Areas) → back (comes r y.texts l').told ≡ r
  told_is (Ok h) l' = refl
  told_is (Err w) l' = ap Err (back_told w)

  areas_is : (r : Result Header Refusal) (l' : Areas) → (comes r y.texts l').areas ≡ l'
  areas_is (Ok h) l' = refl
  areas_is (Err w) l' = refl

  pub joins_once : (r s : Result Header Refusal) (l' l'' : Areas) → Joins x y l r l' → Joins x y l s l'' → (r ≡ s) × (l' ≡ l'')
  joins_once r s l' l'' p q =
      let e = p ∙ sym q in
      (sym (told_is r l') ∙ ap (λ o. back o.told) e ∙ told_is s l'', sym (areas_is r l') ∙ ap (λ o. o.areas) e ∙ areas_is s l'')

  -- ---- a refusal leaves all areas as found
  left_refused : (o : Answer Why Lent) {w : Why} → o ≡ refused w → left o l ≡ l
  unfolding left
  left_refused (ok u) e = let z : ◌≡◌ {A = ℕ} 0 1 = cc in absurd (omega arith)
  left_refused (refused w) e = refl

  pub untouched : (w : Refusal) (l' : Areas) → Joins x y l (Err w) l' → l' ≡ l
  untouched w l' e = ap (λ o. o.areas) e ∙ left_refused (join_into x y l) (sym (ap (λ o. o.told) e))

  -- ---- what is given is the joined set, and the sets may be joined
  roomy : (m : MapSet) (s : Option (ℕ × ℕ)) {u : Lent} → with_room m l s ≡ ok u → u ≡ lent m l
  unfolding with_room
  roomy m none e = ap in_it (sym e)
    where
      in_it : Answer Why Lent → Lent
      in_it (ok u) = u
      in_it (refused w) = lent m l
  roomy m (some s) e = let z : ◌≡◌ {A = ℕ} 0 1 = cc in absurd (omega arith)

  from : {u : Lent} (o : Answer Why MapSet) → LentJoins x y o → bind o (λ m. with_room m l (first_short 1 (needed_and_lent (areas m) l))) ≡ ok u → Given x y l u
  unfolding bind
  from o (not_valid n) e = let z : ◌≡◌ {A = ℕ} 0 1 = cc in absurd (omega arith)
  from o (not_alike p q n) e = let z : ◌≡◌ {A = ℕ} 0 1 = cc in absurd (omega arith)
  from o (not_met p q r n) e = let z : ◌≡◌ {A = ℕ} 0 1 = cc in absurd (omega arith)
  from o (too_many p q r s n) e = let z : ◌≡◌ {A = ℕ} 0 1 = cc in absurd (omega arith)
  from o (given j) e = record { may = j; set = roomy (joined (meaning x) (meaning y)) _ e }

  pub done_given : (h : Header) (l' : Areas) → Joins x y l (Ok h) l' → Given x y l (lent_of h y.texts l')
  unfolding join_into
  done_given h l' e = from (lent_join x y) (lent_exactly x y) (sym (ap (λ o. o.told) e))
