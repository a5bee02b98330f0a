-- Two sets joined as they cross, case by case.
use mathlib.Core.Path.{◌≡◌, refl, sym, ap, subst, ◌∙◌}
use mathlib.Core.List.{List}
use mathlib.Core.Option.{Option, none, some}
use Prim.Native.Nat.{ℕ, ◌≤◌, ◌<◌}
use native.Mathlib.Omega.{arith}
use lib.IntN.{ℤ}
use lib.ListN.{length}
use Rattle.kit.specs.Answer.{Answer, ok, refused, bind}
use Rattle.kit.specs.Lists.{front}
use Rattle.mapset.specs.declared.Header.{Header}
use Rattle.mapset.specs.Described.{FullTexts}
use Rattle.mapset.specs.MapSet.{MapSet}
use Rattle.mapset.specs.Areas.{Areas}
use Rattle.areas.specs.Flat.{areas}
use Rattle.read_needs.specs.Needs.{needed_and_lent, first_short}
use Rattle.c_given.specs.Given.{header_of, texts_of}
use Rattle.join.specs.Join.{joined}
use Rattle.join.proofs.JoinedFormed.{joined_formed}
use Rattle.join.specs.Into.{Lent, lent_of, meaning, Why, with_room, lent_join, join_into}
use Rattle.join.proofs.IntoExactly.{LentJoins, not_valid, not_alike, not_met, too_many, given, lent_exactly}
use Rattle.join_areas.specs.Joined.{comes, came}
use Rattle.std.specs.Prelude.{Result, Ok, Err}
use Rattle.join_areas.specs.declared.Refusal.{Refusal}
use Rattle.kit.specs.Range.{lesser}
use Rattle.kit.proofs.LesserLaws.{lesser_within}
use Rattle.c_answers.specs.Own.{too_short, shortest}
use Rattle.c_answers.specs.ReadExported.{crossed}
use Rattle.c_answers.specs.JoinExported.{answer_number, answer_header, answer_texts, answer_place, Small, crosses, join_crossed}
use Rattle.c_answers.proofs.OwnLaws.{unless_none, unless_short}
use Rattle.c_answers.proofs.ReadLaws.{in_years}

-- ---- where the shortest is long enough, each is
lesser_long : (k a b : ℕ) → k ≤ lesser a b → (k ≤ a) × (k ≤ b)
lesser_long k a b h = let w = lesser_within a b in (omega (arith, w), omega (arith, w))

pub all_long : (k a b c : ℕ) → k ≤ shortest a b c → (k ≤ a) × (k ≤ b) × (k ≤ c)
all_long k a b c h =
    let p = lesser_long k a (lesser b c) h in
    let q = lesser_long k b c p.1 in
    (p.0, q.0, q.1)

-- ---- the epochs of a joined header are small
roomy : (m : MapSet) (l : Areas) (s : Option (ℕ × ℕ)) {u : Lent} → with_room m l s ≡ ok u → m.header ≡ u.header
unfolding with_room
roomy m l none e = ap header_in e
  where
    header_in : Answer Why Lent → Header
    header_in (ok u) = u.header
    header_in (refused w) = m.header
roomy m l (some x) e = let z : ◌≡◌ {A = ℕ} 0 1 = cc in absurd (omega arith)

module _ (x y : Lent) (l : Areas) where
  years : {u : Lent} (o : Answer Why MapSet) → LentJoins x y o → bind o (λ m. with_room m l (first_short 1 (needed_and_lent (areas m) l))) ≡ ok u
      → (u.header.times.first < 9223372036854775808) × (u.header.times.last < 9223372036854775808)
  unfolding bind
  years o (not_valid n) e = let z : ◌≡◌ {A = ℕ} 0 1 = cc in absurd (omega arith)
  years o (not_alike p q n) e = let z : ◌≡◌ {A = ℕ} 0 1 = cc in absurd (omega arith)
  years o (not_met p q r n) e = let z : ◌≡◌ {A = ℕ} 0 1 = cc in absurd (omega arith)
  years o (too_many p q r s n) e = let z : ◌≡◌ {A = ℕ} 0 1 = cc in absurd (omega arith)
  years o (given j) e =
      subst (λ (h : Header). (h.times.first < 9223372036854775808) × (h.times.last < 9223372036854775808)) (roomy (joined (meaning x) (meaning y)) l _ e)
      (in_years (joined (meaning x) (meaning y)) (joined_formed (meaning x) (meaning y) j.join))

  pub small_epochs : (r : Result Header Refusal) (t : FullTexts) (l' : Areas) → comes r t l' ≡ came (join_into x y l) l → Small r
  unfolding join_into
  small_epochs (Ok h) t l' e = years (lent_join x y) (lent_exactly x y) (sym (ap (λ o. o.told) e))
  small_epochs (Err w) t l' e = tt

-- ---- the areas of the call's own, and the answer
module _ (f : List ℤ) (s : List ℕ) (a : Areas) (g : List ℤ) (t : List ℕ) (b l : Areas) (h : List ℤ) (x p : List ℕ) where
  abbrev own : ℕ
  own = too_short (shortest (length f) (length g) (length h)) (shortest (length s) (length t) (length x)) (length p) 2

  pub join_short : {k : ℕ} → k ≡ own → 1 ≤ k → crossed k l h x p ≡ join_crossed f s a g t b l h x p
  unfolding join_crossed
  join_short e q = ap (λ k. crossed k l h x p) e ∙ sym (unless_short _ (λ k. crossed k l h x p) (omega (arith, e, q)))

  module _ (n : own ≡ 0) (r : Result Header Refusal) (l' : Areas)
      (e : comes r (texts_of t) l' ≡ came (join_into (lent_of (header_of f) (texts_of s) a) (lent_of (header_of g) (texts_of t) b) l) l) where
    is_crossed : crosses (comes r (texts_of t) l') h x p ≡ join_crossed f s a g t b l h x p
    unfolding join_crossed
    is_crossed = ap (λ o. crosses o h x p) e ∙ sym (unless_none _ (λ k. crossed k l h x p) n)

    by_answer : (r : Result Header Refusal) → crossed (answer_number r) l' (front (answer_header r) h) (front (answer_texts r (texts_of t)) x) (front (answer_place r) p) ≡ crosses (comes r (texts_of t) l') h x p
    unfolding crosses
    by_answer (Ok h) = refl
    by_answer (Err w) = refl

    pub join_answer : {k : ℕ} {h' : List ℤ} {x' p' : List ℕ} → k ≡ answer_number r → h' ≡ front (answer_header r) h
        → x' ≡ front (answer_texts r (texts_of t)) x → p' ≡ front (answer_place r) p → crossed k l' h' x' p' ≡ join_crossed f s a g t b l h x p
    join_answer k a b c = (λ i. crossed (k i) l' (a i) (b i) (c i)) ∙ by_answer r ∙ is_crossed
