-- A reading as it crosses, case by case.
use mathlib.Core.Path.{◌≡◌, refl, sym, ap, ◌∙◌}
use mathlib.Core.List.{List}
use Prim.Native.Nat.{ℕ, ◌≤◌, ◌<◌}
use native.Mathlib.Omega.{arith}
use lib.IntN.{ℤ}
use lib.ListN.{length}
use Rattle.std.specs.Prelude.{Result, Ok, Err}
use Rattle.kit.specs.Answer.{Answer, ok, refused}
use mathlib.Core.Option.{Option, none, some}
use Rattle.mapset.specs.declared.Header.{Header}
use Rattle.mapset.specs.Described.{FullTexts}
use Rattle.mapset.specs.Header.{Stand, stand_some, contents, says, a_epoch}
use Rattle.mapset.specs.MapSet.{MapSet}
use Rattle.mapset.specs.Areas.{Areas}
use Rattle.reading.specs.declared.Why.{Why}
use Rattle.reading.specs.Read.{read}
use Rattle.reading.proofs.Exact.{made_read}
use Rattle.areas.specs.Formed.{Formed}
use Rattle.kit.specs.Lists.{front}
use Rattle.areas.proofs.Made.{made_formed}
use Rattle.read_outcome.specs.Outcome.{accepted, with_room, outcome_of, outcome, told, told_reason, texts_in, comes, told_number, told_place}
use Rattle.c_answers.specs.Own.{too_short}
use Rattle.c_answers.proofs.OwnLaws.{unless_none, unless_short}
use Rattle.c_answers.specs.ReadExported.{told_header, told_texts, Small, crossed, crosses, read_crossed}
use Rattle.read_outcome.specs.declared.Reason.{Reason}
use Rattle.read_outcome.specs.declared.Reason.TheVariants.{LongLine, BadByte, NotIonex, UnknownLabel, Misplaced, IllFormed, OutOfRange, Disagrees, Missing, EndsEarly, AreaTooShort}
use Rattle.read_outcome.specs.declared.ReadOut.{ReadOut}

-- ---- the epochs of an accepted header are small

pub in_years : (m : MapSet) → Formed m → (m.header.times.first < 9223372036854775808) × (m.header.times.last < 9223372036854775808)
in_years m f = by f.header.records
  where
    by : Stand contents (says m.header m.texts) → (m.header.times.first < 9223372036854775808) × (m.header.times.last < 9223372036854775808)
    by (stand_some p (stand_some (a_epoch q) (stand_some (a_epoch r) s))) = (omega (arith, q), omega (arith, r))

roomy : (m : MapSet) (l : Areas) (s : Option (ℕ × ℕ)) {h : Header} → (with_room m l s).told ≡ accepted h → m.header ≡ h
unfolding with_room
roomy m l none e = cc
roomy m l (some x) e = let z : ◌≡◌ {A = ℕ} 0 1 = cc in absurd (omega arith)

record From (t : List ℕ) (h : Header) : Type 0 where
  set : MapSet
  reads : read t ≡ ok set
  header : set.header ≡ h

from_read : (t : List ℕ) (l : Areas) (a : Answer Why MapSet) → read t ≡ a → {h : Header} → (outcome_of a l).told ≡ accepted h → From t h
unfolding outcome_of
from_read t l (ok m) r e = record { set = m; reads = r; header = roomy m l _ e }
from_read t l (refused w) r e = let z : ◌≡◌ {A = ℕ} 0 1 = cc in absurd (omega arith)

module _ (t : List ℕ) (l : Areas) (r : ReadOut) (l' : Areas) (e : comes r l' ≡ outcome t l) where
  pub small_epochs : Small r.answer
  small_epochs = by r.answer refl
    where
      by : (a : Result Header Reason) → r.answer ≡ a → Small a
      by (Ok h) q =
          let f = from_read t l (read t) refl (sym (ap (λ o. o.told) e) ∙ ap told q) in
          rw f.header at (in_years f.set (made_formed (made_read t f.reads)))
      by (Err w) q = tt

-- ---- the areas of the call's own, and the answer

module _ (t : List ℕ) (l : Areas) (h : List ℤ) (x p : List ℕ) where
  pub cross_short : {k : ℕ} → k ≡ too_short (length h) (length x) (length p) 2 → 1 ≤ k → crossed k l h x p ≡ read_crossed t l h x p
  unfolding read_crossed
  cross_short e a = ap (λ k. crossed k l h x p) e ∙ sym (unless_short _ (λ k. crossed k l h x p) (omega (arith, e, a)))

  module _ (n : too_short (length h) (length x) (length p) 2 ≡ 0) (r : ReadOut) (l' : Areas) (e : comes r l' ≡ outcome t l) where
    is_crossed : crosses (comes r l') h x p ≡ read_crossed t l h x p
    unfolding read_crossed
    is_crossed = ap (λ o. crosses o h x p) e ∙ sym (unless_none _ (λ k. crossed k l h x p) n)

    pub cross_answer : {k : ℕ} {h' : List ℤ} {x' p' : List ℕ} → k ≡ told_number (told r.answer) → h' ≡ front (told_header (told r.answer)) h
        → x' ≡ front (told_texts (told r.answer) (texts_in r)) x → p' ≡ front (told_place (told r.answer)) p → crossed k l' h' x' p' ≡ read_crossed t l h x p
    unfolding crosses
    cross_answer n a b c = (λ i. crossed (n i) l' (a i) (b i) (c i)) ∙ is_crossed

-- ---- a refusal brings no header record and no texts

pub no_header : (w : Reason) (h : List ℤ) → h ≡ front (told_header (told_reason w)) h
no_header (LongLine a b) h = refl
no_header (BadByte a b) h = refl
no_header (NotIonex a b) h = refl
no_header (UnknownLabel a b) h = refl
no_header (Misplaced a b) h = refl
no_header (IllFormed a b) h = refl
no_header (OutOfRange a b) h = refl
no_header (Disagrees a b) h = refl
no_header (Missing a b) h = refl
no_header (EndsEarly a b) h = refl
no_header (AreaTooShort a b) h = refl

pub no_texts : (w : Reason) (x : FullTexts) (t : List ℕ) → t ≡ front (told_texts (told_reason w) x) t
no_texts (LongLine a b) x t = refl
no_texts (BadByte a b) x t = refl
no_texts (NotIonex a b) x t = refl
no_texts (UnknownLabel a b) x t = refl
no_texts (Misplaced a b) x t = refl
no_texts (IllFormed a b) x t = refl
no_texts (OutOfRange a b) x t = refl
no_texts (Disagrees a b) x t = refl
no_texts (Missing a b) x t = refl
no_texts (EndsEarly a b) x t = refl
no_texts (AreaTooShort a b) x t = refl
