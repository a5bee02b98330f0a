-- Ask 12 over the contract of `ionex_join`: three sets joined by two calls come to the same in both groupings, or both are refused.
use mathlib.Core.Path.{◌≡◌, refl, sym, ap, subst, ◌∙◌}
use mathlib.Core.Logic.{◌⊎◌, inl, inr, ⊎_elim}
use mathlib.Core.Option.{Option, none, some}
use Prim.Native.Nat.{ℕ, ◌≤◌}
use native.Mathlib.Decide.{dec_le}
use native.Mathlib.Omega.{arith}
use lib.ListN.{length, drop}
use Rattle.kit.specs.Answer.{Answer, ok, refused, bind}
use Rattle.kit.proofs.AnswerLaws.{pick_elim}
use Rattle.mapset.specs.Header.{HeaderRules}
use Rattle.mapset.specs.MapSet.{MapSet}
use Rattle.mapset.specs.Areas.{Areas}
use Rattle.areas.specs.Flat.{areas}
use Rattle.read_needs.specs.Needs.{needed_and_lent, first_short}
use Rattle.join.specs.Join.{joined, Agree, both_given, both_refused}
use Rattle.join.specs.Into.{Lent, lent_of, lent, IsValid, meaning, Why, with_room, lent_join, join_into, left}
use Rattle.join.specs.EitherWay.{join_leftwards, join_rightwards, NoneShort}
use Rattle.join.proofs.IntoExactly.{LentJoins, not_valid, not_alike, not_met, too_many, given, lent_exactly}
use Rattle.join.proofs.IntoLaws.{joined_valid, either_way_roomy}
use Rattle.join_areas.specs.Joined.{came}
use Rattle.c_header.specs.Numbers.{numbers, text_bytes}
use Rattle.c_given.specs.Given.{header_of, texts_of}
use Rattle.c_answers.specs.Own.{too_short, shortest}
use Rattle.c_answers.specs.ReadExported.{Crossed}
use Rattle.c_answers.specs.JoinExported.{told_number, crosses, join_crossed}
use Rattle.c_answers.proofs.OwnLaws.{unless_none, unless_short}
use Rattle.c_answers.proofs.Back.{header_back, texts_back}
use Rattle.c_promises.specs.JoinCalls as calls
use Rattle.c_promises.specs.JoinCalls.{Handed, Room, Joins, on, as_found, Leftwards, Rightwards, TooShort, Alike}

-- the set that numbers, bytes and areas stand for
abbrev set : Handed → Lent
set s = lent_of (header_of s.header) (texts_of s.texts) s.areas

-- what crosses of an answer
abbrev told : Answer Why Lent → Room → Crossed
told o r = crosses (came o r.areas) r.header r.texts r.place

told_is : (o : Answer Why Lent) (r : Room) → (told o r).number ≡ told_number o
unfolding crosses
told_is o r = refl

-- ---- one call
own_number : (h x r n : ℕ) → (too_short h x r n ≡ 0) ⊎ (101 ≤ too_short h x r n)
unfolding too_short
own_number h x r n =
    pick_elim Of (dec_le 45 h) (λ _. pick_elim Of (dec_le 1324 x) (λ _. pick_elim Of (dec_le n r) (λ _. inl refl) (λ _. inr (omega arith))) (λ _. inr (omega arith))) (λ _. inr (omega arith))
  where
    Of : ℕ → Type 0
    Of k = (k ≡ 0) ⊎ (101 ≤ k)

abbrev own : (x y : Handed) → Room → ℕ
own x y r = too_short (shortest (length x.header) (length y.header) (length r.header)) (shortest (length x.texts) (length y.texts) (length r.texts)) (length r.place) 2

answer_of : (x y : Handed) (r : Room) (c : Crossed) → Joins x y r c → ¬ TooShort c → c ≡ told (join_into (set x) (set y) r.areas) r
unfolding join_crossed
answer_of x y r c j n = ⊎_elim fine short_of (own_number (shortest (length x.header) (length y.header) (length r.header)) (shortest (length x.texts) (length y.texts) (length r.texts)) (length r.place) 2)
  where
    fine : own x y r ≡ 0 → c ≡ told (join_into (set x) (set y) r.areas) r
    fine e = j ∙ unless_none (told (join_into (set x) (set y) r.areas) r) (λ k. as_found k r) e

    short_of : 101 ≤ own x y r → c ≡ told (join_into (set x) (set y) r.areas) r
    short_of l = absurd (n (inr (let e = ap (λ (c : Crossed). c.number) (j ∙ unless_short (told (join_into (set x) (set y) r.areas) r) (λ k. as_found k r) (omega arith)) in omega (arith, e, l))))

-- 0 is answered with a valid set only
record Got (o : Answer Why Lent) : Type 0 where
  set : Lent
  is : o ≡ ok set
  valid : IsValid set

got_room : (m : MapSet) (l : Areas) → IsValid (lent m l) → (s : Option (ℕ × ℕ)) → told_number (with_room m l s) ≡ 0 → Got (with_room m l s)
unfolding with_room
got_room m l v none e = record { set = lent m l; is = refl; valid = v }
got_room m l v (some s) e = absurd (omega (arith, e))

got_by : (x y : Lent) (l : Areas) (o : Answer Why MapSet) → LentJoins x y o → told_number (bind o (λ m. with_room m l (first_short 1 (needed_and_lent (areas m) l)))) ≡ 0
    → Got (bind o (λ m. with_room m l (first_short 1 (needed_and_lent (areas m) l))))
unfolding bind
got_by x y l o (not_valid n) e = absurd (omega (arith, e))
got_by x y l o (not_alike p q n) e = absurd (omega (arith, e))
got_by x y l o (not_met p q r n) e = absurd (omega (arith, e))
got_by x y l o (too_many p q r s n) e = absurd (omega (arith, e))
got_by x y l o (given j) e = got_room (joined (meaning x) (meaning y)) l (joined_valid x y j l) _ e

got : (x y : Lent) (l : Areas) → told_number (join_into x y l) ≡ 0 → Got (join_into x y l)
unfolding join_into
got x y l e = got_by x y l (lent_join x y) (lent_exactly x y) e

-- and what is left then stands for that set
set_back : (u : Lent) (r : Room) → IsValid u → (c : Crossed) → c ≡ told (ok u) r → set (on c) ≡ u
unfolding crosses
set_back u r v c e =
    let h : HeaderRules u.header u.texts = v.sound.header in
    let a = ap (λ (c : Crossed). header_of c.header) e ∙ header_back u.header u.texts (drop (length (numbers u.header)) r.header) h in
    let b = ap (λ (c : Crossed). texts_of c.texts) e ∙ texts_back u.header u.texts (drop (length (text_bytes u.texts)) r.texts) h in
    let l : c.areas ≡ u.areas = unfold left in ap (λ (c : Crossed). c.areas) e in
    λ i. lent_of (a i) (b i) (l i)

-- ---- two calls

-- c is what crosses of the answer o, as far as it is told
record Tells (o : Answer Why Lent) (r : Room) (c : Crossed) : Type 0 where
  number : c.number ≡ told_number o
  whole : (u : Lent) → o ≡ ok u → c ≡ told o r
  refusal : (w : Why) → o ≡ refused w → ¬ (c.number ≡ 0)

apart : {u : Lent} {w : Why} {o : Answer Why Lent} → o ≡ ok u → o ≡ refused w → ⊥
apart e f = let z : ◌≡◌ {A = ℕ} 0 1 = cc in omega arith

tells_stopped : (o : Answer Why Lent) (f : Lent → Answer Why Lent) (r : Room) (k : ℕ) → k ≡ told_number o → ¬ (k ≡ 0) → Tells (bind o f) r (as_found k r)
unfolding bind
tells_stopped (ok u) f r k e n = absurd (n e)
tells_stopped (refused w) f r k e n = record { number = e; whole = λ u g. absurd (apart g refl); refusal = λ v g. n }

tells_went : (o : Answer Why Lent) (f : Lent → Answer Why Lent) (r : Room) (u : Lent) → o ≡ ok u → (x y : Lent) → f u ≡ join_into x y r.areas → (d : Crossed) → d ≡ told (join_into x y r.areas) r → Tells (bind o f) r d
unfolding bind
tells_went o f r u e x y g d i =
    subst (λ o. Tells o r d) (sym g ∙ ap (λ o. bind o f) (sym e))
    (record {
      number = ap (λ (c : Crossed). c.number) i ∙ told_is (join_into x y r.areas) r;
      whole = λ v _. i;
      refusal = λ w k z. apart (got x y r.areas (sym (ap (λ (c : Crossed). c.number) i ∙ told_is (join_into x y r.areas) r) ∙ z)).is k;
    })

-- the first call, answered 0
first_done : (x y : Handed) (r : Room) (c : Crossed) → Joins x y r c → c.number ≡ 0 → (u : Lent) × ((join_into (set x) (set y) r.areas ≡ ok u) × (set (on c) ≡ u))
first_done x y r c j z =
    let e = answer_of x y r c j (λ s. ⊎_elim (λ e. omega (arith, e, z)) (λ e. omega (arith, e, z)) s) in
    let g = got (set x) (set y) r.areas (sym (ap (λ (c : Crossed). c.number) e ∙ told_is (join_into (set x) (set y) r.areas) r) ∙ z) in
    (g.set, (g.is, set_back g.set r g.valid c (e ∙ ap (λ o. told o r) g.is)))

module _ (x y z : Handed) where
  left_tells : (r₁ r : Room) {c : Crossed} → Leftwards x y z r₁ r c → ¬ TooShort c → Tells (join_leftwards (set x) (set y) (set z) r₁.areas r.areas) r c
  left_tells r₁ r (calls.stopped c j n) s =
      tells_stopped (join_into (set x) (set y) r₁.areas) (λ u. join_into u (set z) r.areas) r c.number
      (ap (λ (c : Crossed). c.number) (answer_of x y r₁ c j s) ∙ told_is (join_into (set x) (set y) r₁.areas) r₁) n
  left_tells r₁ r (calls.went c j e d k) s =
      let f = first_done x y r₁ c j e in
      tells_went (join_into (set x) (set y) r₁.areas) (λ u. join_into u (set z) r.areas) r f.0 f.1.0 (set (on c)) (set z) (ap (λ u. join_into u (set z) r.areas) (sym f.1.1)) d
      (answer_of (on c) z r d k s)

  right_tells : (r₂ r : Room) {c : Crossed} → Rightwards x y z r₂ r c → ¬ TooShort c → Tells (join_rightwards (set x) (set y) (set z) r₂.areas r.areas) r c
  right_tells r₂ r (calls.stopped c j n) s =
      tells_stopped (join_into (set y) (set z) r₂.areas) (λ u. join_into (set x) u r.areas) r c.number
      (ap (λ (c : Crossed). c.number) (answer_of y z r₂ c j s) ∙ told_is (join_into (set y) (set z) r₂.areas) r₂) n
  right_tells r₂ r (calls.went c j e d k) s =
      let f = first_done y z r₂ c j e in
      tells_went (join_into (set y) (set z) r₂.areas) (λ u. join_into (set x) u r.areas) r f.0 f.1.0 (set x) (set (on c)) (ap (λ u. join_into (set x) u r.areas) (sym f.1.1)) d
      (answer_of x (on c) r d k s)

  long_enough : (r : Room) {o : Answer Why Lent} {c : Crossed} → Tells o r c → ¬ TooShort c → NoneShort o
  long_enough r t s area need e = s (inl (t.number ∙ ap told_number e))

  agreed : (r : Room) {o o' : Answer Why Lent} {c d : Crossed} → Agree o o' → Tells o r c → Tells o' r d → Alike c d
  agreed r (both_given {x = u}) p q = calls.both_done p.number (p.whole u refl ∙ sym (q.whole u refl))
  agreed r (both_refused {v = v} {w = w}) p q = calls.both_refused (p.refusal v refl) (q.refusal w refl)

  -- both ways end in the areas r, and no call finds an area too short: both answer 0 with the same areas, header and texts, or both are refused
  pub either_way_crossed : (r₁ r₂ r : Room) {c d : Crossed} → Leftwards x y z r₁ r c → Rightwards x y z r₂ r d → ¬ TooShort c → ¬ TooShort d → Alike c d
  either_way_crossed r₁ r₂ r p q s t =
      let a = left_tells r₁ r p s in
      let b = right_tells r₂ r q t in
      agreed r (either_way_roomy (set x) (set y) (set z) r₁.areas r₂.areas r.areas (long_enough r a s) (long_enough r b t)) a b
