-- Lent map sets joined: in terms of the lists that are lent; and three of them in either grouping.
use mathlib.Core.Path.{◌≡◌, refl, sym, ap, subst, ◌∙◌}
use mathlib.Core.Option.{Option, none, some}
use mathlib.Core.List.{List, [], ◌∷◌}
use Prim.Native.Nat.{ℕ, suc, ◌≤◌}
use native.Mathlib.Omega.{arith}
use native.Mathlib.Decide.{dec_le}
use lib.ListN.{length}
use Rattle.kit.specs.Answer.{Answer, ok, refused, bind}
use Rattle.kit.proofs.AnswerLaws.{pick_yes, pick_elim}
use Rattle.mapset.specs.declared.Header.{Header}
use Rattle.mapset.specs.declared.Kind.{Kind}
use Rattle.mapset.specs.declared.Kind.TheVariants.{Rms, Height}
use Rattle.mapset.specs.Grid.{columns}
use Rattle.mapset.specs.MapSet.{MapSet}
use Rattle.mapset.specs.Areas.{Areas, nowhere?, values, value_need}
use Rattle.mapset.proofs.Groups.{header_groups}
use Rattle.mapset.proofs.SoundLaws.{few_values, few_blocks}
use Rattle.layout.specs.Layout.{per_map}
use Rattle.areas.specs.Flat.{areas}
use Rattle.areas.specs.Formed.{Formed}
use Rattle.areas.specs.Nest.{nest}
use Rattle.areas.specs.Valid.{needed}
use Rattle.areas.proofs.Needs.{needs}
use Rattle.areas.proofs.Nested.{nest_areas}
use Rattle.areas.proofs.ValidFormed.{nested_formed, nested_areas, needed_fronts, fronts_valid}
use Rattle.read_needs.specs.Needs.{needed_and_lent, first_short}
use Rattle.join.specs.Join.{count, joined, MayJoin, alike?, meet?, in_limits?, Agree}
use Rattle.join.proofs.JoinedFormed.{joined_formed}
use Rattle.join.proofs.Same.{joined_either}
use Rattle.join.proofs.EitherWay.{rightwards, leftwards, Judges, given, denied, need_judges, bind_judges, agree}
use Rattle.join.proofs.IntoExactly.{LentJoins, not_valid, not_alike, not_met, too_many, given as may_join, lent_exactly}
use Rattle.join.specs.Beside.{beside}
use Rattle.join.proofs.JoinedAreas.{joined_areas}
use Rattle.join.specs.Into.{Lent, lent, IsValid, is_valid?, meaning, Why, because, with_room, lent_join, join_into, MayLent, Large}
use Rattle.join.specs.EitherWay.{join_leftwards, join_rightwards, NoneShort}

-- ---- when

formed : (x : Lent) → IsValid x → Formed (meaning x)
formed x v = nested_formed x.header x.texts x.areas v

lent_judges : (x y : Lent) → Judges (MayLent x y) (joined (meaning x) (meaning y)) (lent_join x y)
unfolding lent_join
lent_judges x y =
    need_judges (is_valid? x) (because 31) (λ m. m.earlier) (λ p.
    need_judges (is_valid? y) (because 31) (λ m. m.later) (λ q.
    need_judges (alike? x.header y.header) (because 40) (λ m. m.join.alike) (λ r.
    need_judges (meet? x.header y.header) (because 41) (λ m. m.join.meet) (λ s.
    need_judges (in_limits? (count x.header y.header) y.header.grid) (because 42) (λ m. m.join.limits) (λ t.
    given (record { earlier = p; later = q; join = record { earlier = formed x p; later = formed y q; alike = r; meet = s; limits = t } }))))))

-- ---- the six lists, in terms of those that are lent
pub lent_areas : (x y : Lent) → MayLent x y
    → areas (joined (meaning x) (meaning y))
    ≡ beside x.header.times.maps y.header.times.maps (per_map y.header) (columns y.header.grid) (needed x.header x.areas) (needed y.header y.areas)
lent_areas x y m =
    joined_areas (meaning x) (meaning y) m.join
    ∙ (λ i. beside x.header.times.maps y.header.times.maps (per_map y.header) (columns y.header.grid)
    (nested_areas x.header x.texts x.areas m.earlier i) (nested_areas y.header y.texts y.areas m.later i))

-- ---- what is left is read as the map set again

module _ (m : MapSet) (f : Formed m) (l : Areas) where
  lent_valid : IsValid (lent m l)
  lent_valid = fronts_valid m f l

  lent_means : meaning (lent m l) ≡ m
  lent_means =
      λ i. record {
        header = m.header;
        texts = m.texts;
        maps = (ap (nest m.header.times.maps (per_map m.header) (columns m.header.grid)) (needed_fronts m f l)
            ∙ nest_areas m.header.times.maps (per_map m.header) (columns m.header.grid) m.maps f.maps) i;
      }

-- what is written of it is read again (`round_trip` of writer), since it is valid
pub joined_valid : (x y : Lent) → MayLent x y → (l : Areas) → IsValid (lent (joined (meaning x) (meaning y)) l)
joined_valid x y m l = lent_valid (joined (meaning x) (meaning y)) (joined_formed (meaning x) (meaning y) m.join) l

-- ---- where no area is too short

module _ (l : Areas) where
  by_room : {P : Type 0} (m : MapSet) → P → (s : Option (ℕ × ℕ)) → NoneShort (with_room m l s) → Judges P (lent m l) (with_room m l s)
  unfolding with_room
  by_room m p none h = given p
  by_room m p (some s) h = absurd (h s.0 s.1 refl)

  room_judges : {P : Type 0} {m : MapSet} {o : Answer Why MapSet} → Judges P m o → NoneShort (bind o (λ m. with_room m l (first_short 1 (needed_and_lent (areas m) l))))
      → Judges P (lent m l) (bind o (λ m. with_room m l (first_short 1 (needed_and_lent (areas m) l))))
  unfolding bind
  room_judges {m = m} (given p) h = by_room m p (first_short 1 (needed_and_lent (areas m) l)) h
  room_judges (denied n) h = denied n

  into_judges : (x y : Lent) → NoneShort (join_into x y l) → Judges (MayLent x y) (lent (joined (meaning x) (meaning y)) l) (join_into x y l)
  unfolding join_into
  into_judges x y h = room_judges (lent_judges x y) h

-- a first join that is too short ends both
first_of_two : (o : Answer Why Lent) (f : Lent → Answer Why Lent) → NoneShort (bind o f) → NoneShort o
unfolding bind
first_of_two o f h area need e = h area need (ap (λ a. bind a f) e)

two_judge : {P Q : Type 0} {u v : Lent} {o : Answer Why Lent} (f : Lent → Answer Why Lent) → Judges P u o → (NoneShort (f u) → Judges Q v (f u)) → NoneShort (bind o f)
    → Judges (P × Q) v (bind o f)
unfolding bind
two_judge f (given p) j h = bind_judges f (given p) (j h)
two_judge f (denied n) j h = denied (λ r. n r.0)

-- ---- either way

module _ (x y z : Lent) (l₁ l₂ : Areas) where
  abbrev xy : Lent
  xy = lent (joined (meaning x) (meaning y)) l₁

  abbrev yz : Lent
  yz = lent (joined (meaning y) (meaning z)) l₂

  xy_means : MayJoin (meaning x) (meaning y) → meaning xy ≡ joined (meaning x) (meaning y)
  xy_means m = lent_means (joined (meaning x) (meaning y)) (joined_formed (meaning x) (meaning y) m) l₁

  yz_means : MayJoin (meaning y) (meaning z) → meaning yz ≡ joined (meaning y) (meaning z)
  yz_means m = lent_means (joined (meaning y) (meaning z)) (joined_formed (meaning y) (meaning z) m) l₂

  lent_right : MayLent x y × MayLent xy z → MayLent y z × MayLent x yz
  lent_right (m, n) =
      let r = rightwards (meaning x) (meaning y) (meaning z) m.join (subst (λ w. MayJoin w (meaning z)) (xy_means m.join) n.join) in (
        record { earlier = m.later; later = n.later; join = r.0 },
        record {
          earlier = m.earlier;
          later = lent_valid (joined (meaning y) (meaning z)) (joined_formed (meaning y) (meaning z) r.0) l₂;
          join = subst (λ w. MayJoin (meaning x) w) (sym (yz_means r.0)) r.1;
        },
      )

  lent_left : MayLent y z × MayLent x yz → MayLent x y × MayLent xy z
  lent_left (m, n) =
      let r = leftwards (meaning x) (meaning y) (meaning z) m.join (subst (λ w. MayJoin (meaning x) w) (yz_means m.join) n.join) in (
        record { earlier = n.earlier; later = m.earlier; join = r.0 },
        record {
          earlier = lent_valid (joined (meaning x) (meaning y)) (joined_formed (meaning x) (meaning y) r.0) l₁;
          later = m.later;
          join = subst (λ w. MayJoin w (meaning z)) (sym (xy_means r.0)) r.1;
        },
      )

  lent_same : MayLent x y × MayLent xy z → joined (meaning xy) (meaning z) ≡ joined (meaning x) (meaning yz)
  lent_same h =
      let m : MayJoin (meaning x) (meaning y) = h.0.join in
      ap (λ w. joined w (meaning z)) (xy_means m) ∙ joined_either (meaning x) (meaning y) (meaning z) m.earlier m.later
      ∙ ap (λ w. joined (meaning x) w) (sym (yz_means (lent_right h).0.join))

-- where no answer is 11, the areas are large enough for these three sets: they come to the same set in the same areas, or both are refused
pub either_way_roomy : (x y z : Lent) (l₁ l₂ l : Areas) → NoneShort (join_leftwards x y z l₁ l) → NoneShort (join_rightwards x y z l₂ l)
    → Agree (join_leftwards x y z l₁ l) (join_rightwards x y z l₂ l)
either_way_roomy x y z l₁ l₂ l g h =
    agree (lent_right x y z l₁ l₂) (lent_left x y z l₁ l₂) (λ h. ap (λ w. lent w l) (lent_same x y z l₁ l₂ h))
    (two_judge (λ u. join_into u z l) (into_judges l₁ x y (first_of_two (join_into x y l₁) (λ u. join_into u z l) g)) (into_judges l (xy x y z l₁ l₂) z) g)
    (two_judge (λ u. join_into x u l) (into_judges l₂ y z (first_of_two (join_into y z l₂) (λ u. join_into x u l) h)) (into_judges l x (yz x y z l₁ l₂)) h)

-- ---- where every map set has the room
no_refusal : {u : Lent} (o : Answer Why Lent) → o ≡ ok u → NoneShort o
no_refusal o e area need f = let z : ◌≡◌ {A = ℕ} 0 1 = cc in absurd (omega arith)

module _ (l : Areas) (g : Large l) where
  roomy : (m : MapSet) → Formed m → with_room m l (first_short 1 (needed_and_lent (areas m) l)) ≡ ok (lent m l)
  unfolding with_room
  roomy m f = ap (with_room m l) (g m f)

  never : {x y : Lent} {o : Answer Why MapSet} → LentJoins x y o → NoneShort (bind o (λ m. with_room m l (first_short 1 (needed_and_lent (areas m) l))))
  unfolding bind
  never (not_valid n) area need e = let z : ◌≡◌ {A = ℕ} 0 1 = cc in absurd (omega arith)
  never (not_alike p q n) area need e = let z : ◌≡◌ {A = ℕ} 0 1 = cc in absurd (omega arith)
  never (not_met p q r n) area need e = let z : ◌≡◌ {A = ℕ} 0 1 = cc in absurd (omega arith)
  never (too_many p q r s n) area need e = let z : ◌≡◌ {A = ℕ} 0 1 = cc in absurd (omega arith)
  never {x} {y} (may_join j) area need e = no_refusal _ (roomy (joined (meaning x) (meaning y)) (joined_formed (meaning x) (meaning y) j.join)) area need e

  pub never_short : (x y : Lent) → NoneShort (join_into x y l)
  unfolding join_into
  never_short x y = never (lent_exactly x y)

neither : (o : Answer Why Lent) (f : Lent → Answer Why Lent) → NoneShort o → ((u : Lent) → NoneShort (f u)) → NoneShort (bind o f)
unfolding bind
neither (ok u) f p q = q u
neither (refused w) f p q = p

pub either_way_lent : (x y z : Lent) (l₁ l₂ l : Areas) → Large l₁ → Large l₂ → Large l
    → Agree (bind (join_into x y l₁) (λ u. join_into u z l)) (bind (join_into y z l₂) (λ u. join_into x u l))
either_way_lent x y z l₁ l₂ l g₁ g₂ g =
    either_way_roomy x y z l₁ l₂ l (neither (join_into x y l₁) (λ u. join_into u z l) (never_short l₁ g₁ x y) (λ u. never_short l g u z))
    (neither (join_into y z l₂) (λ u. join_into x u l) (never_short l₂ g₂ y z) (λ u. never_short l g x u))

-- ---- such areas there are
abbrev Suffice : List (ℕ × ℕ) → Type 0
Suffice [] = Unit {0}
Suffice (p ∷ ps) = (p.0 ≤ p.1) × Suffice ps

suffices : (i : ℕ) (ps : List (ℕ × ℕ)) → Suffice ps → first_short i ps ≡ none
unfolding first_short
suffices i [] h = refl
suffices i (p ∷ ps) h = pick_yes (dec_le p.0 p.1) (first_short (suc i) ps) (some (i, p.0)) h.0 ∙ suffices (suc i) ps h.1

few_need : (k : Kind) (h : Header) (ms : List ℕ) → values h ≤ 2000000 → value_need k h ms ≤ 2000000
few_need k h ms v = pick_elim (λ x. x ≤ 2000000) (nowhere? k ms) (λ _. omega arith) (λ _. v)

pub large : (l : Areas) → 2000000 ≤ length l.tec → 2000000 ≤ length l.rms → 2000000 ≤ length l.height → 6000000 ≤ length l.exponents
    → 300 ≤ length l.epochs → 300 ≤ length l.marks → Large l
large l t r h x e k m f =
    let q = needs m f in
    let b = header_groups m.header m.texts f.header in
    let n = b.1.1.0.1.1.1 in
    let lim = b.1.1.1.1.1.1.1.1.1 in
    let v = few_values m.header.times.maps m.header.grid lim in
    let u = few_blocks m.header.times.maps m.header.grid lim in
    suffices 1 (needed_and_lent (areas m) l)
    (omega arith, (omega (arith, few_need Rms m.header (areas m).marks v, q.rms), (omega (arith, few_need Height m.header (areas m).marks v, q.height), (omega arith, (omega arith, (omega arith, tt))))))
