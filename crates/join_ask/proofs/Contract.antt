-- What the code's contract gives: a joined set is valid and is written and read again; it answers as its parts do; and three sets come to the
-- same in both groupings, or both are refused.
use mathlib.Core.Path.{◌≡◌, sym, ap, subst, ◌∙◌}
use Prim.Native.Nat.{ℕ, ◌-◌, ◌≤◌}
use lib.IntN.{ℤ}
use Rattle.kit.specs.Answer.{Answer, bind}
use Rattle.mapset.specs.declared.Header.{Header}
use Rattle.mapset.specs.Areas.{Areas}
use Rattle.areas.specs.Valid.{Valid}
use Rattle.canonical.specs.Meaning.{Back}
use Rattle.canonical.proofs.Exact.{round_trip}
use Rattle.ask_spans.specs.Time.{epoch}
use Rattle.ask.specs.Ask.{Told, Served, Answers}
use Rattle.join.specs.Into.{Lent, lent_of, IsValid, Why, join_into, Large}
use Rattle.join.specs.EitherWay.{join_leftwards, join_rightwards, NoneShort}
use Rattle.join.proofs.IntoLaws.{joined_valid, either_way_lent, either_way_roomy}
use Rattle.join.specs.Join.{Agree}
use Rattle.join_areas.specs.Joined.{comes}
use Rattle.join_areas.specs.Contract.{Joins, Given}
use Rattle.join_areas.proofs.Once.{done_given}
use Rattle.std.specs.Prelude.{Result, Ok, Err}
use Rattle.join_areas.specs.declared.Refusal.{Refusal}
use Rattle.join_ask.specs.Calls as calls
use Rattle.join_ask.specs.Calls.{Leftwards, Rightwards}
use Rattle.join_ask.proofs.AskLent.{asking_lent, ask_lent_late, ask_lent_early}

-- ---- two sets
module _ (x y : Lent) (l : Areas) (h : Header) (l' : Areas) (j : Joins x y l (Ok h) l') where
  abbrev out : Lent
  out = lent_of h y.texts l'

  given : Given x y l out
  given = done_given x y l h l' j

  pub result_valid : Valid h y.texts l'
  result_valid = subst IsValid (sym given.set) (joined_valid x y given.may l)

  pub result_read_again : Back h y.texts l'
  result_read_again = round_trip h y.texts l' result_valid

  -- where neither set gives 24
  module _ (kind method layer : ℕ) (lat lon : ℤ) (second : ℕ) (sx : Served (asking_lent x kind method layer lat lon second)) (sy : Served (asking_lent y kind method layer lat lon second)) where
    pub result_late : y.header.times.first ≤ second → (r : Told) → Answers (asking_lent y kind method layer lat lon second) r → Answers (asking_lent out kind method layer lat lon second) r
    result_late from r a =
        subst (λ u. Answers (asking_lent u kind method layer lat lon second) r) (sym given.set) (ask_lent_late x y given.may l kind method layer lat lon second sx sy from r a)

    pub result_early : 2 ≤ x.header.times.maps → second ≤ epoch x.areas.epochs (x.header.times.maps - 1 - 1) → (r : Told)
        → Answers (asking_lent x kind method layer lat lon second) r → Answers (asking_lent out kind method layer lat lon second) r
    result_early two to r a =
        subst (λ u. Answers (asking_lent u kind method layer lat lon second) r) (sym given.set) (ask_lent_early x y given.may l kind method layer lat lon second sx sy two to r a)

-- ---- three sets, joined by two calls

module _ (x y z : Lent) where
  told : (x y : Lent) (l : Areas) (r : Result Header Refusal) (l' : Areas) → Joins x y l r l' → (comes r y.texts l').told ≡ join_into x y l
  told x y l r l' j = ap (λ o. o.told) j

  leftwards_is : (l₁ l : Areas) {o : Answer Why Lent} → Leftwards x y z l₁ l o → o ≡ join_leftwards x y z l₁ l
  unfolding bind
  leftwards_is l₁ l (calls.stopped w l₁' j) = ap (λ a. bind a (λ u. join_into u z l)) (told x y l₁ (Err w) l₁' j)
  leftwards_is l₁ l (calls.went h l₁' j r l' k) = told (lent_of h y.texts l₁') z l r l' k ∙ ap (λ a. bind a (λ u. join_into u z l)) (told x y l₁ (Ok h) l₁' j)

  rightwards_is : (l₂ l : Areas) {o : Answer Why Lent} → Rightwards x y z l₂ l o → o ≡ join_rightwards x y z l₂ l
  unfolding bind
  rightwards_is l₂ l (calls.stopped w l₂' j) = ap (λ a. bind a (λ u. join_into x u l)) (told y z l₂ (Err w) l₂' j)
  rightwards_is l₂ l (calls.went h l₂' j r l' k) = told x (lent_of h z.texts l₂') l r l' k ∙ ap (λ a. bind a (λ u. join_into x u l)) (told y z l₂ (Ok h) l₂' j)

  -- both end in the same areas l, and neither way answers 11: the same set with the same areas, or both are refused
  pub either_way_code_roomy : (l₁ l₂ l : Areas) → {o o' : Answer Why Lent} → Leftwards x y z l₁ l o → Rightwards x y z l₂ l o' → NoneShort o → NoneShort o' → Agree o o'
  either_way_code_roomy l₁ l₂ l p q g h =
      rw (leftwards_is l₁ l p, rightwards_is l₂ l q) (either_way_roomy x y z l₁ l₂ l (subst NoneShort (leftwards_is l₁ l p) g) (subst NoneShort (rightwards_is l₂ l q) h))

  -- with areas that have the room for every map set neither way ever answers 11
  pub either_way_code : (l₁ l₂ l : Areas) → Large l₁ → Large l₂ → Large l → {o o' : Answer Why Lent} → Leftwards x y z l₁ l o → Rightwards x y z l₂ l o' → Agree o o'
  either_way_code l₁ l₂ l g₁ g₂ g p q = rw (leftwards_is l₁ l p, rightwards_is l₂ l q) (either_way_lent x y z l₁ l₂ l g₁ g₂ g)
