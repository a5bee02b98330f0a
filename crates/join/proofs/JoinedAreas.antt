-- What the six lists of two joined map sets are.
use mathlib.Core.Path.{◌≡◌, refl, sym, ap, ◌∙◌}
use mathlib.Core.Bool.{true}
use mathlib.Core.Option.{none}
use mathlib.Core.List.{List, [], ◌∷◌, ◌++◌, map}
use Prim.Native.Nat.{ℕ, zero, suc, ◌+◌, ◌-◌, ◌*◌, ◌≤◌, ◌<◌}
use native.Mathlib.Omega.{arith}
use native.Mathlib.Nat.{suc-mul, zero-mul, add-mul}
use native.Mathlib.Decide.{ℕ_discrete, dec_le}
use lib.ListN.{length, take, drop, replicate, take-append-drop, replicate-append-replicate}
use lib.Seq.{take_at, length-take-le}
use lib.IntN.{ℤ, pos}
use Rattle.kit.specs.Answer.{All, pick}
use Rattle.kit.proofs.AnswerLaws.{pick_yes, pick_no}
use Rattle.kit.proofs.ListLaws.{all_take}
use Rattle.mapset.specs.declared.Kind.{Kind}
use Rattle.mapset.specs.declared.Kind.TheVariants.{Tec, Rms, Height}
use Rattle.mapset.specs.Grid.{layers, rows, columns}
use Rattle.mapset.specs.MapSet.{Block, OtherMap, Maps, MapSet}
use Rattle.mapset.specs.Areas.{Present, Nowhere, nowhere?, blocks, values}
use Rattle.layout.specs.Layout.{Other, per_map}
use Rattle.areas.specs.Lists.{flat, tab}
use Rattle.areas.specs.Flat.{found, absent_block, or_absent, slots, reads, tec_blocks, values_of, exponents_of, wanted, mark, there, areas_of, areas}
use Rattle.areas.specs.Formed.{MapRules, Rising, MapsRules}
use Rattle.areas.proofs.ListLaws.{flat_append, map_append, all_tab}
use Rattle.areas.proofs.KindLaws.{exponents_length, values_length, found_here, found_past, found_low, kind_rules, kind_count}
use Rattle.areas.proofs.Needs.{bit_present, bit_found, of_kind, marks_of, kind_nowhere, tec_rules, tec_count}
use Rattle.areas.proofs.Needs as goal
use Rattle.areas.proofs.Seams.{cells_cons, cells_same}
use Rattle.areas.proofs.Nested.{tec_third, rms_third, height_third}
use Rattle.join.specs.Join.{header, upto, move, others, maps, joined, MayJoin}
use Rattle.join.proofs.Same.{upto_in, upto_out}
use Rattle.join.proofs.JoinedFormed.{map_take, rising_moved, joined_formed}
use Rattle.join.specs.Beside.{exponents_beside, beside}

-- ---- lists of maps one after the other

values_append : (g h : List (List Block)) → values_of (g ++ h) ≡ values_of g ++ values_of h
values_append g h =
    ap (λ l. flat (map (λ b. b.values) l)) (flat_append g h) ∙ ap flat (map_append (λ b. b.values) (flat g) (flat h))
    ∙ flat_append (map (λ b. b.values) (flat g)) (map (λ b. b.values) (flat h))

exponents_append : (g h : List (List Block)) → exponents_of (g ++ h) ≡ exponents_of g ++ exponents_of h
exponents_append g h = ap (map (λ b. b.exponent)) (flat_append g h) ∙ map_append (λ b. b.exponent) (flat g) (flat h)

module _ (B C k : ℕ) (g : List (List Block)) (p : All (MapRules B C) g) (n : k ≤ length g) where
  front_rules : All (MapRules B C) (take k g)
  front_rules = all_take (MapRules B C) k g p

  values_front : values_of (take k g) ≡ take (k * B * C) (values_of g)
  values_front =
      sym (take_at (values_of (take k g)) (values_of (drop k g)) (k * B * C) (values_length B C (take k g) front_rules ∙ ap (λ j. j * B * C) (length-take-le k g n)))
      ∙ ap (take (k * B * C)) (sym (values_append (take k g) (drop k g)) ∙ ap values_of (take-append-drop k g))

  exponents_front : exponents_of (take k g) ≡ take (k * B) (exponents_of g)
  exponents_front =
      sym (take_at (exponents_of (take k g)) (exponents_of (drop k g)) (k * B) (exponents_length B C (take k g) front_rules ∙ ap (λ j. j * B) (length-take-le k g n)))
      ∙ ap (take (k * B)) (sym (exponents_append (take k g) (drop k g)) ∙ ap exponents_of (take-append-drop k g))

  values_both : (h : List (List Block)) → values_of (take k g ++ h) ≡ take (k * B * C) (values_of g) ++ values_of h
  values_both h = values_append (take k g) h ∙ ap (λ l. l ++ values_of h) values_front

  exponents_both : (h : List (List Block)) → exponents_of (take k g ++ h) ≡ take (k * B) (exponents_of g) ++ exponents_of h
  exponents_both h = exponents_append (take k g) h ∙ ap (λ l. l ++ exponents_of h) exponents_front

-- ---- what stands at each number

module _ {A : Type 0} (f : ℕ → A) where
  tab_moved : (h : ℕ → A) (k i s n : ℕ) → s ≡ k + i → ((j : ℕ) → i ≤ j → f (k + j) ≡ h j) → tab s n f ≡ tab i n h
  tab_moved h k i s zero e q = refl
  tab_moved h k i s (suc n) e q = λ t. (ap f e ∙ q i (omega arith)) t ∷ tab_moved h k (suc i) (suc s) n (omega arith) (λ j l. q j (omega arith)) t

  tab_front : (g : ℕ → A) (rest : List A) (i k m n s : ℕ) → s ≡ k + n → k ≤ m → ((j : ℕ) → i ≤ j → j < i + k → f j ≡ g j)
      → tab (i + k) n f ≡ rest → tab i s f ≡ take k (tab i m g) ++ rest
  tab_front g rest i zero m n s e l p q =
      let u : i ≡ i + 0 = omega arith in
      let v : s ≡ n = omega arith in
      (λ t. tab (u t) (v t) f) ∙ q
  tab_front g rest i (suc k) zero n s e l p q = absurd (omega arith)
  tab_front g rest i (suc k) (suc m) n zero e l p q = absurd (omega arith)
  tab_front g rest i (suc k) (suc m) n (suc s) e l p q =
      let u : suc i + k ≡ i + suc k = omega arith in
      λ t. p i (omega arith) (omega arith) t ∷ tab_front g rest (suc i) k m n s (omega arith) (omega arith) (λ j x y. p j (omega arith) (omega arith)) (ap (λ r. tab r n f) u ∙ q) t

  tab_both : (g h : ℕ → A) (k m n : ℕ) → k ≤ m → ((j : ℕ) → j ≤ k → f j ≡ g j) → ((j : ℕ) → 1 ≤ j → f (k + j) ≡ h j)
      → tab 1 (k + n) f ≡ take k (tab 1 m g) ++ tab 1 n h
  tab_both g h k m n l p q =
      tab_front g (tab 1 n h) 1 k m n (k + n) refl l (λ j x y. p j (omega arith)) (tab_moved h k 1 (1 + k) n (omega arith) q)

module _ (k : ℕ) where
  found_upto : (xs ys : List OtherMap) (j : ℕ) → j ≤ k → found ys j ≡ none → found (upto k xs ++ ys) j ≡ found xs j
  found_upto [] ys j h e = e
  found_upto (x ∷ xs) ys j h e = by (dec_le x.of k) (ℕ_discrete x.of j) (found_upto xs ys j h e)
    where
      by : Dec (x.of ≤ k) → Dec (x.of ≡ j) → found (upto k xs ++ ys) j ≡ found xs j → found (upto k (x ∷ xs) ++ ys) j ≡ found (x ∷ xs) j
      by (yes p) (yes q) ih = ap (λ l. found (l ++ ys) j) (upto_in k x xs p) ∙ found_here x (upto k xs ++ ys) j q ∙ sym (found_here x xs j q)
      by (yes p) (no q) ih = ap (λ l. found (l ++ ys) j) (upto_in k x xs p) ∙ found_past x (upto k xs ++ ys) j q ∙ ih ∙ sym (found_past x xs j q)
      by (no p) q ih = ap (λ l. found (l ++ ys) j) (upto_out k x xs p) ∙ ih ∙ sym (found_past x xs j (λ z. p (omega arith)))

  found_above : (xs ys : List OtherMap) (j : ℕ) → k < j → found (upto k xs ++ ys) j ≡ found ys j
  found_above [] ys j h = refl
  found_above (x ∷ xs) ys j h = by (dec_le x.of k) (found_above xs ys j h)
    where
      by : Dec (x.of ≤ k) → found (upto k xs ++ ys) j ≡ found ys j → found (upto k (x ∷ xs) ++ ys) j ≡ found ys j
      by (yes p) ih = ap (λ l. found (l ++ ys) j) (upto_in k x xs p) ∙ found_past x (upto k xs ++ ys) j (λ z. omega arith) ∙ ih
      by (no p) ih = ap (λ l. found (l ++ ys) j) (upto_out k x xs p) ∙ ih

  found_moved : (xs : List OtherMap) (j : ℕ) → found (map (move k) xs) (k + j) ≡ found xs j
  found_moved [] j = refl
  found_moved (x ∷ xs) j = by (ℕ_discrete x.of j) (found_moved xs j)
    where
      by : Dec (x.of ≡ j) → found (map (move k) xs) (k + j) ≡ found xs j → found (map (move k) (x ∷ xs)) (k + j) ≡ found (x ∷ xs) j
      by (yes p) ih = found_here (move k x) (map (move k) xs) (k + j) (omega arith) ∙ sym (found_here x xs j p)
      by (no p) ih = found_past (move k x) (map (move k) xs) (k + j) (λ q. p (omega arith)) ∙ ih ∙ sym (found_past x xs j p)

  module _ (n B C : ℕ) (xs ys : List OtherMap) (r : Rising n B C 0 ys) where
    found_early : (j : ℕ) → j ≤ k → found (others k xs ys) j ≡ found xs j
    found_early j h = found_upto xs (map (move k) ys) j h (found_low (k + n) B C (k + 0) (map (move k) ys) j (omega arith) (rising_moved B C k n 0 ys r))

    found_late : (j : ℕ) → 1 ≤ j → found (others k xs ys) (k + j) ≡ found ys j
    found_late j h = found_above xs (map (move k) ys) (k + j) (omega arith) ∙ found_moved ys j

    slots_both : (m : ℕ) → k ≤ m → slots (k + n) (others k xs ys) ≡ take k (slots m xs) ++ slots n ys
    slots_both m l = tab_both (found (others k xs ys)) (found xs) (found ys) k m n l found_early found_late

    reads_both : (m : ℕ) → k ≤ m → reads B C (slots (k + n) (others k xs ys)) ≡ take k (reads B C (slots m xs)) ++ reads B C (slots n ys)
    reads_both m l =
        ap (reads B C) (slots_both m l) ∙ map_append (or_absent B C) (take k (slots m xs)) (slots n ys)
        ∙ ap (λ z. z ++ reads B C (slots n ys)) (map_take (or_absent B C) k (slots m xs))

-- ---- a kind, with or without maps

all_absent : (B C i n : ℕ) → values_of (reads B C (tab i n (found []))) ≡ replicate (n * B * C) (pos 9999)
all_absent B C i zero = rw (zero-mul B, zero-mul C) refl
all_absent B C i (suc n) =
    let e : B * C + n * B * C ≡ suc n * B * C = ap (λ x. x + n * B * C) refl ∙ omega (arith, sum) in
    cells_cons (λ b. b.values) (replicate B (absent_block C)) (reads B C (tab (suc i) n (found [])))
    ∙ (λ t. cells_same (λ b. b.values) C (pos 9999) (absent_block C) refl B t ++ all_absent B C (suc i) n t)
    ∙ replicate-append-replicate (B * C) (n * B * C) (pos 9999) ∙ ap (λ k. replicate k (pos 9999)) e
  where
    sum : suc n * B * C ≡ n * B * C + B * C
    sum = ap (λ x. x * C) (suc-mul n B) ∙ add-mul (n * B) B C

module _ (n B C : ℕ) (k : Kind) (o : Other k) (m : Maps) (r : Rising n B C 0 (goal.others k m)) where
  somewhere : (x : OtherMap) (xs : List OtherMap) → goal.others k m ≡ x ∷ xs → ¬ Nowhere k (marks_of n m)
  somewhere x xs e a =
      let s : Rising n B C 0 (x ∷ xs) = rw e at r in
      let z : of_kind k (there (found m.rms x.of)) (there (found m.height x.of)) ≡ true =
      bit_found k m x.of o ∙ ap (λ l. there (found l x.of)) e ∙ ap there (found_here x xs x.of refl) in
      all_tab (λ c. ¬ Present k c) 1 n _ a x.of (omega (arith, s.0)) (omega (arith, s.1)) (bit_present k _ _ z)

  abbrev all_values : List ℤ
  all_values = values_of (reads B C (slots n (goal.others k m)))

  wanted_pick : (v : List ℤ) → wanted (goal.others k m) v ≡ pick (nowhere? k (marks_of n m)) [] v
  wanted_pick v = go (goal.others k m) refl
    where
      go : (xs : List OtherMap) → goal.others k m ≡ xs → wanted xs v ≡ pick (nowhere? k (marks_of n m)) [] v
      go [] e = sym (pick_yes (nowhere? k (marks_of n m)) [] v (kind_nowhere n B C k o m e))
      go (x ∷ xs) e = sym (pick_no (nowhere? k (marks_of n m)) [] v (somewhere x xs e))

  wanted_full : all_values ≡ pick (nowhere? k (marks_of n m)) (replicate (n * B * C) (pos 9999)) (wanted (goal.others k m) all_values)
  wanted_full = go (goal.others k m) refl
    where
      go : (xs : List OtherMap) → goal.others k m ≡ xs
          → values_of (reads B C (slots n xs)) ≡ pick (nowhere? k (marks_of n m)) (replicate (n * B * C) (pos 9999)) (wanted xs (values_of (reads B C (slots n xs))))
      go [] e = all_absent B C 1 n ∙ sym (pick_yes (nowhere? k (marks_of n m)) _ _ (kind_nowhere n B C k o m e))
      go (x ∷ xs) e = sym (pick_no (nowhere? k (marks_of n m)) _ _ (somewhere x xs e))

-- ---- a kind of both
module _ (k m n B C : ℕ) (a b : Maps) (l : k ≤ m) (f : MapsRules m B C a) (g : MapsRules n B C b) where
  marks_both : marks_of (k + n) (maps k a b) ≡ take k (marks_of m a) ++ marks_of n b
  marks_both =
      tab_both _ _ _ k m n l
      (λ j h i. mark (there (found_early k n B C a.rms b.rms g.rms j h i)) (there (found_early k n B C a.height b.height g.height j h i)))
      (λ j h i. mark (there (found_late k n B C a.rms b.rms g.rms j h i)) (there (found_late k n B C a.height b.height g.height j h i)))

  tec_both : tec_blocks (maps k a b) ≡ take k (tec_blocks a) ++ tec_blocks b
  tec_both = map_append (λ t. t.blocks) (take k a.tec) b.tec ∙ ap (λ r. r ++ tec_blocks b) (map_take (λ t. t.blocks) k a.tec)

  tec_enough : k ≤ length (tec_blocks a)
  tec_enough = omega (arith, tec_count m B C a f)

  module _ (kd : Kind) (o : Other kd) (e : goal.others kd (maps k a b) ≡ others k (goal.others kd a) (goal.others kd b))
      (r : Rising m B C 0 (goal.others kd a)) (s : Rising n B C 0 (goal.others kd b)) (t : Rising (k + n) B C 0 (goal.others kd (maps k a b))) where
    kind_reads : reads B C (slots (k + n) (goal.others kd (maps k a b))) ≡ take k (reads B C (slots m (goal.others kd a))) ++ reads B C (slots n (goal.others kd b))
    kind_reads = ap (λ xs. reads B C (slots (k + n) xs)) e ∙ reads_both k n B C (goal.others kd a) (goal.others kd b) s m l

    enough : k ≤ length (reads B C (slots m (goal.others kd a)))
    enough = omega (arith, kind_count m B C 0 (goal.others kd a) r)

    kind_exponents_both : exponents_of (reads B C (slots (k + n) (goal.others kd (maps k a b))))
        ≡ take (k * B) (exponents_of (reads B C (slots m (goal.others kd a)))) ++ exponents_of (reads B C (slots n (goal.others kd b)))
    kind_exponents_both = ap exponents_of kind_reads ∙ exponents_both B C k (reads B C (slots m (goal.others kd a))) (kind_rules m B C 0 (goal.others kd a) r) enough (reads B C (slots n (goal.others kd b)))

    kind_values_both : wanted (goal.others kd (maps k a b)) (values_of (reads B C (slots (k + n) (goal.others kd (maps k a b)))))
        ≡ pick (nowhere? kd (take k (marks_of m a) ++ marks_of n b)) []
        (take (k * B * C) (pick (nowhere? kd (marks_of m a)) (replicate (m * B * C) (pos 9999)) (wanted (goal.others kd a) (values_of (reads B C (slots m (goal.others kd a))))))
        ++ pick (nowhere? kd (marks_of n b)) (replicate (n * B * C) (pos 9999)) (wanted (goal.others kd b) (values_of (reads B C (slots n (goal.others kd b))))))
    kind_values_both =
        wanted_pick (k + n) B C kd o (maps k a b) t _
        ∙ (λ i. pick (nowhere? kd (marks_both i)) []
        ((ap values_of kind_reads ∙ values_both B C k (reads B C (slots m (goal.others kd a))) (kind_rules m B C 0 (goal.others kd a) r) enough (reads B C (slots n (goal.others kd b)))
        ∙ (λ i. take (k * B * C) (wanted_full m B C kd o a r i) ++ wanted_full n B C kd o b s i)) i))

-- ---- all six
module _ (m n B C : ℕ) (a b : Maps) (f : MapsRules m B C a) (g : MapsRules n B C b) (j : MapsRules (m - 1 + n) B C (maps (m - 1) a b)) where
  few : m - 1 ≤ m
  few = omega arith

  -- the exponents of each kind
  tec_exponents : exponents_of (tec_blocks (maps (m - 1) a b)) ≡ exponents_beside m n B C (areas_of m B C a) (areas_of n B C b) Tec
  unfolding areas_of
  tec_exponents =
      ap exponents_of (tec_both (m - 1) m n B C a b few f g) ∙ exponents_both B C (m - 1) (tec_blocks a) (tec_rules m B C a f) (tec_enough (m - 1) m n B C a b few f g) (tec_blocks b)
      ∙ (λ i. take ((m - 1) * B) (sym (tec_third m B C a f) i) ++ sym (tec_third n B C b g) i)

  rms_exponents : exponents_of (reads B C (slots (m - 1 + n) (goal.others Rms (maps (m - 1) a b)))) ≡ exponents_beside m n B C (areas_of m B C a) (areas_of n B C b) Rms
  unfolding areas_of
  rms_exponents =
      kind_exponents_both (m - 1) m n B C a b few f g Rms tt refl f.rms g.rms j.rms
      ∙ (λ i. take ((m - 1) * B) (sym (rms_third m B C a f) i) ++ sym (rms_third n B C b g) i)

  height_exponents : exponents_of (reads B C (slots (m - 1 + n) (goal.others Height (maps (m - 1) a b)))) ≡ exponents_beside m n B C (areas_of m B C a) (areas_of n B C b) Height
  unfolding areas_of
  height_exponents =
      kind_exponents_both (m - 1) m n B C a b few f g Height tt refl f.height g.height j.height
      ∙ (λ i. take ((m - 1) * B) (sym (height_third m B C a f) i) ++ sym (height_third n B C b g) i)

  areas_both : areas_of (m - 1 + n) B C (maps (m - 1) a b) ≡ beside m n B C (areas_of m B C a) (areas_of n B C b)
  unfolding areas_of beside
  areas_both =
      λ i. record {
        tec = (ap values_of (tec_both (m - 1) m n B C a b few f g) ∙ values_both B C (m - 1) (tec_blocks a) (tec_rules m B C a f) (tec_enough (m - 1) m n B C a b few f g) (tec_blocks b)) i;
        rms = kind_values_both (m - 1) m n B C a b few f g Rms tt refl f.rms g.rms j.rms i;
        height = kind_values_both (m - 1) m n B C a b few f g Height tt refl f.height g.height j.height i;
        exponents = tec_exponents i ++ (rms_exponents i ++ height_exponents i);
        epochs = (map_append (λ t. t.epoch) (take (m - 1) a.tec) b.tec ∙ ap (λ r. r ++ map (λ t. t.epoch) b.tec) (map_take (λ t. t.epoch) (m - 1) a.tec)) i;
        marks = marks_both (m - 1) m n B C a b few f g i;
      }

pub joined_areas : (a b : MapSet) → MayJoin a b
    → areas (joined a b) ≡ beside a.header.times.maps b.header.times.maps (per_map b.header) (columns b.header.grid) (areas a) (areas b)
joined_areas a b m =
    let e = m.alike.grid in
    let f : MapsRules a.header.times.maps (per_map b.header) (columns b.header.grid) a.maps = rw e at m.earlier.maps in
    areas_both a.header.times.maps b.header.times.maps (per_map b.header) (columns b.header.grid) a.maps b.maps f m.later.maps (joined_formed a b m).maps
    ∙ (λ i. beside a.header.times.maps b.header.times.maps (per_map b.header) (columns b.header.grid)
    (areas_of a.header.times.maps (layers (sym e i) * rows (sym e i)) (columns (sym e i)) a.maps) (areas b))
