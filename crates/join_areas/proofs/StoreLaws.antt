-- Two lent sets that may be joined: what the code's numbers are, and what its areas hold, in the words of `join_into`.
use mathlib.Core.Path.{◌≡◌, refl, sym, ap, subst, ◌∙◌}
use mathlib.Core.Bool.{true, false, ◌||◌, cond}
use mathlib.Core.List.{List, [], ◌∷◌, ◌++◌}
use mathlib.Core.Option.{Option, none, some}
use Prim.Native.Nat.{ℕ, zero, suc, ◌+◌, ◌-◌, ◌*◌, ◌≤◌}
use native.Mathlib.Omega.{arith}
use native.Mathlib.Nat.{add-mul, mul_assoc, mul-le-mul_right}
use lib.Dec.{ltb}
use lib.IntN.{ℤ, pos}
use lib.ListN.{length, take, drop, replicate}
use lib.Seq.{take-take, length-take-le}
use Rattle.kit.specs.Answer.{refused, bind, pick}
use Rattle.kit.proofs.AnswerLaws.{pick_yes, pick_no}
use Rattle.kit.specs.Lists.{front}
use Rattle.kit.proofs.ListLaws.{all_append, all_front, all_behind}
use Rattle.mapset.specs.declared.Kind.{Kind}
use Rattle.mapset.specs.declared.Kind.TheVariants.{Tec, Rms, Height}
use Rattle.mapset.specs.Grid.{Limits, layers, rows, columns}
use Rattle.mapset.specs.MapSet.{MapSet}
use Rattle.mapset.specs.Areas.{Areas, Present, Nowhere, nowhere?, values, value_need, blocks, Room}
use Rattle.mapset.proofs.Groups.{header_groups}
use Rattle.mapset.proofs.SoundLaws.{few_values, few_blocks}
use Rattle.areas.specs.Flat.{areas}
use Rattle.areas.specs.Formed.{Formed}
use Rattle.areas.specs.Nest.{third}
use Rattle.areas.specs.Fronts.{fronts}
use Rattle.areas.specs.Valid.{needed}
use Rattle.areas.proofs.Needs.{needs}
use Rattle.read_needs.specs.Needs.{lengths, needed_and_lent, first_short, pairs, needs_of}
use Rattle.read_needs.proofs.ShortLaws.{all_long}
use Rattle.join_lists.specs.Lists.{or_absent, values_of_two, third_of_two}
use Rattle.join.specs.Join.{header_from, joined}
use Rattle.join.proofs.JoinedFormed.{joined_formed}
use Rattle.join.specs.Beside.{beside}
use Rattle.join.specs.Into.{Lent, IsValid, meaning, with_room, lent_join, join_into, left, MayLent}
use Rattle.join.proofs.IntoLaws.{lent_areas}
use Rattle.join.proofs.IntoExactly.{given, lent_once}
use Rattle.join_areas.specs.Joined.{some_of, kinds_left, kept, some_left, kind_beside, KindFits, Fillable, all_beside, short_of, Ready, puts, by_room, stored, told_why, comes, came}
use Rattle.join_areas.specs.declared.Refusal.{Refusal}
use Rattle.std.specs.Prelude.{Result, Ok, Err}
use Rattle.mapset.specs.declared.Header.{Header}
use Rattle.layout.specs.Layout.{per_map}

-- ---- kinds
pub has_told : (k : Kind) (ms : List ℕ) {n : ℕ} → n ≡ pick (nowhere? k ms) 0 1 → ltb 0 n ≡ some_of k ms
unfolding pick
has_told k ms e = ap (ltb 0) e ∙ by (nowhere? k ms)
  where
    by : (d : Dec (Nowhere k ms)) → ltb 0 (pick d 0 1) ≡ pick d false true
    by (yes p) = refl
    by (no n) = refl

some_both : (k : Kind) (ms ns : List ℕ) → some_of k (ms ++ ns) ≡ (some_of k ms || some_of k ns)
unfolding pick
some_both k ms ns = by (nowhere? k ms) (nowhere? k ns)
  where
    by : (d : Dec (Nowhere k ms)) (e : Dec (Nowhere k ns)) → some_of k (ms ++ ns) ≡ (pick d false true || pick e false true)
    by (yes p) (yes q) = pick_yes (nowhere? k (ms ++ ns)) false true (all_append (λ m. ¬ Present k m) ms ns p q)
    by (yes p) (no n) = pick_no (nowhere? k (ms ++ ns)) false true (λ h. n (all_behind (λ m. ¬ Present k m) ms ns h))
    by (no n) e = pick_no (nowhere? k (ms ++ ns)) false true (λ h. n (all_front (λ m. ¬ Present k m) ms ns h))

same_values : (K N : ℕ) (v : ℤ) → K ≤ N → replicate K v ≡ take K (replicate N v)
same_values zero N v h = refl
same_values (suc K) zero v h = absurd (omega arith)
same_values (suc K) (suc N) v h = ap (λ l. v ∷ l) (same_values K N v (omega arith))

module _ {P : Type 0} where
  cond_pick : {X : Type 0} (d : Dec P) (x y : X) → cond (pick d false true) x y ≡ pick d y x
  unfolding pick
  cond_pick (yes p) x y = refl
  cond_pick (no n) x y = refl

  -- K of N values of a set, absent where it has no map of the kind
  early_is : (d : Dec P) (K N : ℕ) (vs : List ℤ) → K ≤ N → or_absent (pick d false true) K vs ≡ take K (pick d (replicate N (pos 9999)) (take (pick d 0 N) vs))
  unfolding pick
  early_is (yes p) K N vs h = same_values K N (pos 9999) h
  early_is (no n) K N vs h = sym (take-take K N vs h)

  late_is : (d : Dec P) (N : ℕ) (vs : List ℤ) → or_absent (pick d false true) N vs ≡ pick d (replicate N (pos 9999)) (take (pick d 0 N) vs)
  unfolding pick
  late_is (yes p) N vs = refl
  late_is (no n) N vs = refl

  -- and the room for them
  early_room : (d : Dec P) (K N k : ℕ) → K ≤ N → pick d 0 N ≤ k → cond (pick d false true) K 0 ≤ k
  unfolding pick
  early_room (yes p) K N k h r = omega arith
  early_room (no n) K N k h r = omega arith

kind_is : (k : Kind) (w : ℕ) (ms ns : List ℕ) (vs ws : List ℤ) (K N M : ℕ) → kept ms * w ≡ K → length ns * w ≡ M → K ≤ N
    → kind_beside k w ms ns vs ws
    ≡ pick (nowhere? k (take (kept ms) ms ++ ns)) []
    (take K (pick (nowhere? k ms) (replicate N (pos 9999)) (take (pick (nowhere? k ms) 0 N) vs)) ++ pick (nowhere? k ns) (replicate M (pos 9999)) (take (pick (nowhere? k ns) 0 M) ws))
kind_is k w ms ns vs ws K N M p q h =
    (λ i. values_of_two (some_left k ms ns) (some_of k ms) (some_of k ns) (p i) (q i) vs ws)
    ∙ (λ i. cond (sym (some_both k (take (kept ms) ms) ns) i) (early_is (nowhere? k ms) K N vs h i ++ late_is (nowhere? k ns) M ws i) [])
    ∙ cond_pick (nowhere? k (take (kept ms) ms ++ ns)) _ []

-- ---- lists
part_of : {A : Type 0} (a i j : ℕ) (l : List A) → i + a ≤ j → take a (drop i (take j l)) ≡ take a (drop i l)
part_of a zero j l h = take-take a j l (omega arith)
part_of a (suc i) zero l h = absurd (omega arith)
part_of a (suc i) (suc j) [] h = refl
part_of a (suc i) (suc j) (x ∷ l) h = part_of a i j l (omega arith)

third_needed : (k : Kind) (s t : ℕ) (es : List ℤ) → t ≡ s → third k s (take (3 * t) es) ≡ third k s es
third_needed Tec s t es e = part_of s 0 (3 * t) es (omega arith)
third_needed Rms s t es e = part_of s s (3 * t) es (omega arith)
third_needed Height s t es e = part_of s (s + s) (3 * t) es (omega arith)

pub maps_of : (x : Lent) → IsValid x → (1 ≤ x.header.times.maps) × (x.header.times.maps ≤ 300)
maps_of x v = let w = (header_groups x.header x.texts v.sound.header).1.1.0.1.1.1 in (w.0, w.1)

-- ---- two sets
module _ (x y : Lent) (j : MayLent x y) where
  abbrev m : ℕ
  m = x.header.times.maps

  abbrev n : ℕ
  n = y.header.times.maps

  abbrev B : ℕ
  B = per_map y.header

  abbrev C : ℕ
  C = columns y.header.grid

  abbrev ms : List ℕ
  ms = take m x.areas.marks

  abbrev ns : List ℕ
  ns = take n y.areas.marks

  abbrev both : MapSet
  both = joined (meaning x) (meaning y)

  is_formed : Formed both
  is_formed = joined_formed (meaning x) (meaning y) j.join

  early : (1 ≤ m) × (m ≤ 300)
  early = maps_of x j.earlier

  late : (1 ≤ n) × (n ≤ 300)
  late = maps_of y j.later

  marks_x : m ≤ length x.areas.marks
  marks_x = j.earlier.sound.room.marks

  marks_y : n ≤ length y.areas.marks
  marks_y = j.later.sound.room.marks

  ms_length : length ms ≡ m
  ms_length = length-take-le m x.areas.marks marks_x

  ns_length : length ns ≡ n
  ns_length = length-take-le n y.areas.marks marks_y

  kept_is : kept ms ≡ m - 1
  kept_is = ap (λ k. k - 1) ms_length

  -- the earlier set's needs, by the later grid
  values_x : values x.header ≡ m * B * C
  values_x = ap (λ g. m * (layers g * rows g) * columns g) j.join.alike.grid

  blocks_x : blocks x.header ≡ m * B
  blocks_x = ap (λ g. m * (layers g * rows g)) j.join.alike.grid

  -- ---- products
  early_values : (m - 1) * (B * C) ≡ (m - 1) * B * C
  early_values = sym (mul_assoc (m - 1) B C)

  late_values : n * (B * C) ≡ n * B * C
  late_values = sym (mul_assoc n B C)

  all_values : (m - 1 + n) * B * C ≡ (m - 1) * (B * C) + n * (B * C)
  all_values = mul_assoc (m - 1 + n) B C ∙ add-mul (m - 1) n (B * C)

  fewer_blocks : (m - 1) * B ≤ m * B
  fewer_blocks = mul-le-mul_right B (omega arith)

  fewer_values : (m - 1) * B * C ≤ m * B * C
  fewer_values = mul-le-mul_right C fewer_blocks

  -- ---- room
  limits : Limits (m - 1 + n) y.header.grid
  limits = is_formed.header.limits

  few : (m - 1) * (B * C) + n * (B * C) ≤ 2000000
  few = omega (arith, few_values (m - 1 + n) y.header.grid limits, all_values)

  kept_values : kept ms * (B * C) ≡ (m - 1) * (B * C)
  kept_values = ap (λ k. k * (B * C)) kept_is

  marked_values : length ns * (B * C) ≡ n * (B * C)
  marked_values = ap (λ k. k * (B * C)) ns_length

  marks_kept : take (kept ms) ms ≡ take (m - 1) x.areas.marks
  marks_kept = ap (λ k. take k ms) kept_is ∙ take-take (m - 1) m x.areas.marks (omega arith)

  kind_fits : (k : Kind) (vs ws us : List ℤ) → value_need k x.header ms ≤ length vs → value_need k y.header ns ≤ length ws
      → cond (some_of k (take (m - 1) x.areas.marks) || some_of k ns) ((m - 1 + n) * B * C) 0 ≤ length us → KindFits k (B * C) ms ns vs ws us
  kind_fits k vs ws us p q r =
      record {
        maps = omega (arith, ms_length, early.0);
        small = omega (arith, few, kept_values, marked_values);
        early = early_room (nowhere? k ms) (kept ms * (B * C)) (values x.header) (length vs) (omega (arith, kept_values, early_values, fewer_values, values_x)) p;
        late = early_room (nowhere? k ns) (length ns * (B * C)) (values y.header) (length ws) (omega (arith, marked_values, late_values)) q;
        room = subst (λ t. cond (some_of k t || some_of k ns) (kept ms * (B * C) + length ns * (B * C)) 0 ≤ length us) (sym marks_kept)
            (subst (λ t. cond (some_of k (take (m - 1) x.areas.marks) || some_of k ns) t 0 ≤ length us) (all_values ∙ (λ i. sym kept_values i + sym marked_values i)) r);
      }

  fillable : (l : Areas) → short_of x.header.times y.header x.areas y.areas l ≡ none → Fillable m n B C x.areas y.areas l
  fillable l e =
      let z = all_long 1 _ e in
      let r : Room x.header ms x.areas = j.earlier.sound.room in
      let q : Room y.header ns y.areas = j.later.sound.room in
      record {
        maps = early.0;
        width = omega (arith, few, mul-le-mul_right (B * C) late.0);
        values = few;
        blocks = omega (arith, few_blocks m x.header.grid j.earlier.sound.header.limits, blocks_x);
        other_blocks = few_blocks n y.header.grid j.later.sound.header.limits;
        tec = (omega (arith, r.tec, early_values, fewer_values, values_x), omega (arith, q.tec, late_values), omega (arith, z.0, all_values));
        rms = kind_fits Rms x.areas.rms y.areas.rms l.rms r.rms q.rms z.1.0;
        height = kind_fits Height x.areas.height y.areas.height l.height r.height q.height z.1.1.0;
        exponents = (fewer_blocks, omega (arith, r.exponents, blocks_x), q.exponents, omega (arith, z.1.1.1.0, add-mul (m - 1) n B));
        epochs = (omega (arith, r.epochs), q.epochs, z.1.1.1.1.0);
        marks = (marks_x, marks_y, z.1.1.1.1.1.0);
      }

  pub ready : Ready x.header.times y.header x.areas y.areas
  ready = record { maps = early.0; few = early.1; few_late = late.1; limits = limits; marks = marks_x; marks_late = marks_y; fits = fillable }

  -- ---- what the areas hold
  kind_beside_is : (k : Kind) (vs ws : List ℤ) (N : ℕ) → N ≡ m * B * C
      → kind_beside k (B * C) ms ns vs ws
      ≡ pick (nowhere? k (take (m - 1) ms ++ ns)) []
      (take ((m - 1) * B * C) (pick (nowhere? k ms) (replicate (m * B * C) (pos 9999)) (take (pick (nowhere? k ms) 0 N) vs))
      ++ pick (nowhere? k ns) (replicate (n * B * C) (pos 9999)) (take (pick (nowhere? k ns) 0 (n * B * C)) ws))
  kind_beside_is k vs ws N e =
      kind_is k (B * C) ms ns vs ws ((m - 1) * B * C) (m * B * C) (n * B * C) (ap (λ k. k * (B * C)) kept_is ∙ early_values) (ap (λ k. k * (B * C)) ns_length ∙ late_values) fewer_values
      ∙ (λ i. pick (nowhere? k (take (kept_is i) ms ++ ns)) []
      (take ((m - 1) * B * C) (pick (nowhere? k ms) (replicate (m * B * C) (pos 9999)) (take (pick (nowhere? k ms) 0 (sym e i)) vs))
      ++ pick (nowhere? k ns) (replicate (n * B * C) (pos 9999)) (take (pick (nowhere? k ns) 0 (n * B * C)) ws)))

  third_is : (k : Kind) → third_of_two ((m - 1) * B) (m * B) (n * B) x.areas.exponents y.areas.exponents k
      ≡ take ((m - 1) * B) (third k (m * B) (take (3 * blocks x.header) x.areas.exponents)) ++ third k (n * B) (take (3 * blocks y.header) y.areas.exponents)
  third_is k = λ i. take ((m - 1) * B) (sym (third_needed k (m * B) (blocks x.header) x.areas.exponents blocks_x) i) ++ sym (third_needed k (n * B) (n * B) y.areas.exponents refl) i

  beside_is : (l : Areas) → all_beside m n B C x.areas y.areas l ≡ fronts (beside m n B C (needed x.header x.areas) (needed y.header y.areas)) l
  unfolding all_beside fronts beside needed
  beside_is l =
      let t : take ((m - 1) * (B * C)) x.areas.tec ≡ take ((m - 1) * B * C) (take (values x.header) x.areas.tec) =
      ap (λ k. take k x.areas.tec) early_values ∙ sym (take-take ((m - 1) * B * C) (values x.header) x.areas.tec (omega (arith, fewer_values, values_x))) in
      λ i. record {
        tec = front (t i ++ take (late_values i) y.areas.tec) l.tec;
        rms = front (kind_beside_is Rms x.areas.rms y.areas.rms (values x.header) values_x i) l.rms;
        height = front (kind_beside_is Height x.areas.height y.areas.height (values x.header) values_x i) l.height;
        exponents = front (third_is Tec i ++ (third_is Rms i ++ third_is Height i)) l.exponents;
        epochs = front (sym (take-take (m - 1) m x.areas.epochs (omega arith)) i ++ take n y.areas.epochs) l.epochs;
        marks = front (sym (take-take (m - 1) m x.areas.marks (omega arith)) i ++ ns) l.marks;
      }

  all_is : (l : Areas) → all_beside m n B C x.areas y.areas l ≡ fronts (areas both) l
  all_is l = beside_is l ∙ ap (λ a. fronts a l) (sym (lent_areas x y j))

  -- ---- what they need
  marks_both : (areas both).marks ≡ take (m - 1) x.areas.marks ++ ns
  unfolding beside needed
  marks_both = ap (λ a. a.marks) (lent_areas x y j) ∙ ap (λ l. l ++ ns) (take-take (m - 1) m x.areas.marks (omega arith))

  kind_need : (k : Kind) → cond (some_of k (take (m - 1) x.areas.marks) || some_of k ns) ((m - 1 + n) * B * C) 0 ≡ value_need k both.header (areas both).marks
  kind_need k =
      ap (λ b. cond b ((m - 1 + n) * B * C) 0) (sym (some_both k (take (m - 1) x.areas.marks) ns))
      ∙ cond_pick (nowhere? k (take (m - 1) x.areas.marks ++ ns)) ((m - 1 + n) * B * C) 0
      ∙ ap (λ s. pick (nowhere? k s) 0 ((m - 1 + n) * B * C)) (sym marks_both)

  pairs_are : (l : Areas) → pairs (needs_of (m - 1 + n) B C (kinds_left (take (m - 1) x.areas.marks) ns)) (lengths l) ≡ needed_and_lent (areas both) l
  pairs_are l =
      let z = needs both is_formed in
      λ i. pairs (record {
        tec = sym z.tec i;
        rms = (kind_need Rms ∙ sym z.rms) i;
        height = (kind_need Height ∙ sym z.height) i;
        exponents = sym z.exponents i;
        epochs = sym z.epochs i;
        marks = sym z.marks i;
      }) (lengths l)

  into_is : (l : Areas) → join_into x y l ≡ with_room both l (short_of x.header.times y.header x.areas y.areas l)
  unfolding join_into bind
  into_is l =
      ap (λ o. bind o (λ m. with_room m l (first_short 1 (needed_and_lent (areas m) l)))) (lent_once x y (given j))
      ∙ ap (λ p. with_room both l (first_short 1 p)) (sym (pairs_are l))

  -- ---- the answer
  by_room_is : (l : Areas) (o : Option (ℕ × ℕ))
      → comes (by_room x.header.times y.header x.areas y.areas l o).answer y.texts (by_room x.header.times y.header x.areas y.areas l o).areas ≡ came (with_room both l o) l
  unfolding by_room with_room left
  by_room_is l none = ap (λ a. comes (Ok (header_from x.header.times y.header)) y.texts a) (all_is l)
  by_room_is l (some s) = refl

  pub stored_is : (l : Areas) (r : Result Header Refusal) (l' : Areas) → puts r l' ≡ stored x.header.times y.header x.areas y.areas l → comes r y.texts l' ≡ came (join_into x y l) l
  unfolding stored
  stored_is l r l' e =
      (λ i. comes (e i).answer y.texts (e i).areas) ∙ by_room_is l (short_of x.header.times y.header x.areas y.areas l) ∙ ap (λ o. came o l) (sym (into_is l))

-- ---- a refusal leaves all areas as found
pub refused_is : (x y : Lent) (l : Areas) (w : Refusal) → lent_join x y ≡ refused (told_why w) → comes (Err w) y.texts l ≡ came (join_into x y l) l
unfolding join_into bind left
refused_is x y l w e = sym (ap (λ o. came (bind o (λ m. with_room m l (first_short 1 (needed_and_lent (areas m) l)))) l) e)
