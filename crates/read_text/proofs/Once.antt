-- `read` has no second answer; it accepts exactly what the rules make, where the areas are long enough; and 11 tells exactly the first area too short.
use mathlib.Core.Path.{◌≡◌, refl, sym, ap, ap₂, ◌∙◌}
use mathlib.Core.Logic.{◌↔◌, ◌⊎◌, inl, inr}
use mathlib.Core.List.{List, [], ◌∷◌}
use mathlib.Core.Option.{Option, none, some}
use Rattle.std.specs.Prelude.{Ok, Err}
use Prim.Native.Nat.{ℕ, suc, ◌≤◌, ◌<◌}
use native.Mathlib.Omega.{arith}
use native.Mathlib.Decide.{dec_le}
use Rattle.kit.specs.Answer.{Answer, ok, refused, pick, All}
use Rattle.kit.proofs.AnswerLaws.{pick_yes, pick_no}
use Rattle.kit.proofs.TruthLaws.{clash}
use Rattle.mapset.specs.declared.Header.{Header}
use Rattle.mapset.specs.MapSet.{MapSet}
use Rattle.mapset.specs.Areas.{Areas}
use Rattle.layout.specs.Layout.{Makes}
use Rattle.reading.specs.declared.Why.{Why}
use Rattle.reading.specs.Read.{read}
use Rattle.reading.proofs.Exact.{read_made, made_read}
use Rattle.areas.specs.Flat.{areas}
use Rattle.areas.specs.Fronts.{fronts}
use Rattle.read_needs.specs.Needs.{needed_and_lent, first_short}
use Rattle.read_needs.proofs.ShortLaws.{none_short}
use Rattle.read_outcome.proofs.Once.{told_once, texts_once}
use Rattle.read_outcome.specs.Outcome.{accepted, eleven, Outcome, with_room, outcome_of, outcome, told_reason, told, texts_in, comes}
use Rattle.read_outcome.specs.declared.Reason.{Reason}
use Rattle.read_outcome.specs.declared.Reason.TheVariants.{LongLine, BadByte, NotIonex, UnknownLabel, Misplaced, IllFormed, OutOfRange, Disagrees, Missing, EndsEarly, AreaTooShort}
use Rattle.read_outcome.specs.declared.ReadOut.{ReadOut}

-- the contract of `read`: of the text t and the areas l it hands back r and leaves the areas l'
abbrev pub Reads : List ℕ → Areas → ReadOut → Areas → Type 0
Reads t l r l' = comes r l' ≡ outcome t l

-- ---- no second answer

pub read_once : (t : List ℕ) (l : Areas) (r s : ReadOut) (l' l'' : Areas) → Reads t l r l' → Reads t l s l'' → (r ≡ s) × (l' ≡ l'')
read_once t l r s l' l'' p q =
    let e = p ∙ sym q in
    let a : r.answer ≡ s.answer = told_once r.answer s.answer (ap (λ o. o.told) e) in
    let x = texts_once r s (ap (λ o. o.texts) e) in
    (λ i. record { answer = a i; texts = x.0 i; descriptions = x.1 i }, ap (λ o. o.areas) e)

-- ---- in words of `Makes`, `areas` and the lent lengths only

-- every area holds what it needs
abbrev pub Fits : MapSet → Areas → Type 0
Fits m l = All (λ x. x.0 ≤ x.1) (needed_and_lent (areas m) l)

-- of areas counted from i, the a-th is the first that is too short, and it needs n elements
abbrev pub FirstShort : (i a n : ℕ) → List (ℕ × ℕ) → Type 0
FirstShort i a n [] = ⊥
FirstShort i a n (x ∷ xs) = ((x.1 < x.0) × ((a ≡ i) × (n ≡ x.0))) ⊎ ((x.0 ≤ x.1) × FirstShort (suc i) a n xs)

-- the header record, the texts and the lists of m are what comes back, and behind the lists what was there
pub record Given (m : MapSet) (l : Areas) (r : ReadOut) (l' : Areas) : Type 0 where
  pub answer : r.answer ≡ Ok m.header
  pub texts : texts_in r ≡ m.texts
  pub areas : l' ≡ fronts (areas m) l

first_is : (i a n : ℕ) (xs : List (ℕ × ℕ)) → FirstShort i a n xs → first_short i xs ≡ some (a, n)
unfolding first_short
first_is i a n [] f = absurd f
first_is i a n (x ∷ xs) (inl f) = pick_no (dec_le x.0 x.1) _ _ (λ h. omega (arith, f.0)) ∙ ap₂ (λ b k. some (b, k)) (sym f.1.0) (sym f.1.1)
first_is i a n (x ∷ xs) (inr f) = pick_yes (dec_le x.0 x.1) _ _ f.0 ∙ first_is (suc i) a n xs f.1

-- what is short, if anything is
data WhatIsShort (i : ℕ) (xs : List (ℕ × ℕ)) : Option (ℕ × ℕ) → Type 0 where
  roomy : All (λ x. x.0 ≤ x.1) xs → WhatIsShort i xs none
  short : (a n : ℕ) → FirstShort i a n xs → WhatIsShort i xs (some (a, n))

later : {i : ℕ} {x : ℕ × ℕ} {xs : List (ℕ × ℕ)} {o : Option (ℕ × ℕ)} → x.0 ≤ x.1 → WhatIsShort (suc i) xs o → WhatIsShort i (x ∷ xs) o
later h (roomy a) = roomy (h, a)
later h (short a n f) = short a n (inr (h, f))

room : (i : ℕ) (xs : List (ℕ × ℕ)) → WhatIsShort i xs (first_short i xs)
unfolding first_short pick
room i [] = roomy tt
room i (x ∷ xs) = by (dec_le x.0 x.1) (room (suc i) xs)
  where
    by : (d : Dec (x.0 ≤ x.1)) → WhatIsShort (suc i) xs (first_short (suc i) xs) → WhatIsShort i (x ∷ xs) (pick d (first_short (suc i) xs) (some (i, x.0)))
    by (yes p) r = later p r
    by (no n) r = short i x.0 (inl (omega arith, (refl, refl)))

-- ---- an outcome, by what was told

data Outcomes (t : List ℕ) (l : Areas) : Outcome → Type 0 where
  stored : (m : MapSet) → Makes m t → Fits m l → Outcomes t l (with_room m l none)
  too_short : (m : MapSet) (a n : ℕ) → Makes m t → FirstShort 1 a n (needed_and_lent (areas m) l) → Outcomes t l (with_room m l (some (a, n)))
  not_made : (w : Why) → Outcomes t l (outcome_of (refused w) l)

from_room : (t : List ℕ) (l : Areas) (m : MapSet) → Makes m t → (o : Option (ℕ × ℕ)) → WhatIsShort 1 (needed_and_lent (areas m) l) o → Outcomes t l (with_room m l o)
from_room t l m k o (roomy a) = stored m k a
from_room t l m k o (short a n f) = too_short m a n k f

outcomes : (t : List ℕ) (l : Areas) → Outcomes t l (outcome t l)
unfolding outcome_of
outcomes t l = by (read t) refl
  where
    by : (a : Answer Why MapSet) → read t ≡ a → Outcomes t l (outcome_of a l)
    by (ok m) e = from_room t l m (made_read t e) _ (room 1 (needed_and_lent (areas m) l))
    by (refused w) e = not_made w

-- what is told is not what another outcome tells
short_clash : {X : Type 0} {h : Header} (m : MapSet) (l : Areas) (a n : ℕ) → (with_room m l (some (a, n))).told ≡ accepted h → X
unfolding with_room
short_clash m l a n e = clash (cc)

bad_clash : {X : Type 0} {h : Header} (w : Why) (l : Areas) → (outcome_of (refused w) l).told ≡ accepted h → X
unfolding outcome_of
bad_clash w l e = clash (cc)

stored_clash : {X : Type 0} {a n : ℕ} (m : MapSet) (l : Areas) → (with_room m l none).told ≡ eleven a n → X
unfolding with_room
stored_clash m l e = clash (cc)

place_clash : {X : Type 0} {a n : ℕ} (w : Why) (l : Areas) → (outcome_of (refused w) l).told ≡ eleven a n → X
unfolding outcome_of
place_clash w l e = clash (cc)

pub not_accepted : {X : Type 0} {h : Header} (w : Reason) → told_reason w ≡ accepted h → X
not_accepted (LongLine a b) e = clash (cc)
not_accepted (BadByte a b) e = clash (cc)
not_accepted (NotIonex a b) e = clash (cc)
not_accepted (UnknownLabel a b) e = clash (cc)
not_accepted (Misplaced a b) e = clash (cc)
not_accepted (IllFormed a b) e = clash (cc)
not_accepted (OutOfRange a b) e = clash (cc)
not_accepted (Disagrees a b) e = clash (cc)
not_accepted (Missing a b) e = clash (cc)
not_accepted (EndsEarly a b) e = clash (cc)
not_accepted (AreaTooShort a b) e = clash (cc)

same_short : {a n : ℕ} (m : MapSet) (l : Areas) (b k : ℕ) → (with_room m l (some (b, k))).told ≡ eleven a n → (b ≡ a) × (k ≡ n)
unfolding with_room
same_short m l b k e = (cc, cc)

module _ (t : List ℕ) (l : Areas) (r : ReadOut) (l' : Areas) (c : Reads t l r l') where
  pub given : (m : MapSet) → Makes m t → Fits m l → Given m l r l'
  unfolding outcome_of with_room
  given m k f =
      let e : comes r l' ≡ with_room m l none = c ∙ ap (λ a. outcome_of a l) (read_made k) ∙ ap (with_room m l) (none_short 1 _ f) in
      record {
        answer = told_once r.answer (Ok m.header) (ap (λ o. o.told) e);
        texts = ap (λ o. o.texts) e;
        areas = ap (λ o. o.areas) e;
      }

  -- accepted exactly when some m makes the text and all needs fit, and m is what comes back
  pub accepts_exactly : ((h : Header) × (r.answer ≡ Ok h)) ↔ ((m : MapSet) × (Makes m t × (Fits m l × Given m l r l')))
  accepts_exactly = (λ a. by (outcome t l) (outcomes t l) (sym (ap (λ o. o.told) c) ∙ ap told a.1), λ x. (x.0.header, x.1.1.1.answer))
    where
      by : {h : Header} (o : Outcome) → Outcomes t l o → o.told ≡ accepted h → (m : MapSet) × (Makes m t × (Fits m l × Given m l r l'))
      by o (stored m k f) e = (m, (k, (f, given m k f)))
      by o (too_short m a n k f) e = short_clash m l a n e
      by o (not_made w) e = bad_clash w l e

  -- 11 with the area a and the need n exactly when some m makes the text and a is the first area shorter than its need n
  pub short_exactly : (a n : ℕ) → (r.answer ≡ Err (AreaTooShort a n)) ↔ ((m : MapSet) × (Makes m t × FirstShort 1 a n (needed_and_lent (areas m) l)))
  unfolding outcome_of with_room
  short_exactly a n = (
    λ q. by (outcome t l) (outcomes t l) (sym (ap (λ o. o.told) c) ∙ ap told q),
    λ x. told_once r.answer (Err (AreaTooShort a n)) (ap (λ o. o.told) (c ∙ ap (λ a. outcome_of a l) (read_made x.1.0) ∙ ap (with_room x.0 l) (first_is 1 a n _ x.1.1))),
  )
    where
      by : (o : Outcome) → Outcomes t l o → o.told ≡ eleven a n → (m : MapSet) × (Makes m t × FirstShort 1 a n (needed_and_lent (areas m) l))
      by o (stored m k f) e = stored_clash m l e
      by o (too_short m b j k f) e = let z = same_short m l b j e in (m, (k, rw (z.0, z.1) at f))
      by o (not_made w) e = place_clash w l e

  -- in every other case all areas are as found
  pub untouched : (w : Reason) → r.answer ≡ Err w → l' ≡ l
  unfolding outcome_of with_room
  untouched w q = ap (λ o. o.areas) c ∙ by (outcome t l) (outcomes t l) (sym (ap (λ o. o.told) c) ∙ ap told q)
    where
      by : (o : Outcome) → Outcomes t l o → o.told ≡ told_reason w → o.areas ≡ l
      by o (stored m k f) e = not_accepted w (sym e)
      by o (too_short m b j k f) e = refl
      by o (not_made v) e = refl
