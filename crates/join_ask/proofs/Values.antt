-- A node of a joined set has the value that it has in the one of the two that its map comes from.
use mathlib.Core.Path.{◌≡◌, refl, sym, ap, ◌∙◌}
use mathlib.Core.List.{List, ◌++◌}
use mathlib.Core.Option.{none, some}
use Prim.Native.Nat.{ℕ, ◌+◌, ◌-◌, ◌*◌, ◌≤◌, ◌<◌}
use native.Mathlib.Omega.{arith}
use native.Mathlib.Nat.{add-mul, mul_assoc, mul-le-mul_right}
use lib.Arith.{digits_lt}
use lib.IntN.{ℤ, pos}
use lib.ListN.{length, take, get_or, replicate, length-append, length-replicate}
use lib.Seq.{length-take-le, get_or-take}
use Rattle.kit.specs.Answer.{pick, ×_dec}
use Rattle.kit.proofs.AnswerLaws.{pick_no, pick_elim}
use Rattle.mapset.specs.Areas.{Areas, Present, Nowhere, present?, nowhere?, first_of}
use Rattle.mapset.specs.declared.Kind.{Kind}
use Rattle.mapset.specs.declared.Kind.TheVariants.{Tec, Rms, Height}
use Rattle.mapset.proofs.Groups.{marked}
use Rattle.areas.specs.Nest.{third}
use Rattle.areas.proofs.Unnested.{Sixfold, third_length, thirds_back}
use Rattle.ask_nodes.specs.Value.{is_value?, thousandths, worth, kind_of, block, number_at, exponent_at, value}
use Rattle.ask_nodes.specs.declared.Weighed.{Weighed}
use Rattle.ask_nodes.specs.declared.Shape.{Shape}
use Rattle.ask.specs.Ask.{area}
use Rattle.join.specs.Beside.{full, marks_beside, exponents_beside, beside}
use Rattle.join_ask.proofs.Epochs.{at_front, at_behind}
use Rattle.join_ask.proofs.Terms.{later}

-- ---- worth
pub worth_same : (k : Kind) (mark : ℕ) (v e v' e' : ℤ) → (Present k mark → (v ≡ v') × (e ≡ e')) → worth k mark v e ≡ worth k mark v' e'
unfolding worth
worth_same k mark v e v' e' f = by (present? k mark)
  where
    by : Dec (Present k mark) → worth k mark v e ≡ worth k mark v' e'
    by (yes p) = λ i. worth k mark ((f p).0 i) ((f p).1 i)
    by (no n) =
        pick_no (×_dec (present? k mark) (is_value? v e)) (some (thousandths v e)) none (λ h. n h.0)
        ∙ sym (pick_no (×_dec (present? k mark) (is_value? v' e')) (some (thousandths v' e')) none (λ h. n h.0))

-- ---- a kind that has a map
-- ---- thirds
module _ (s : ℕ) (E : Kind → List ℤ) (l : (k : Kind) → length (E k) ≡ s) where
  thirds_at : (kd : Kind) (i : ℕ) → i < s → get_or (E Tec ++ (E Rms ++ E Height)) (first_of kd s + i) (pos 0) ≡ get_or (E kd) i (pos 0)
  thirds_at Tec i b =
      let e : 0 + i ≡ i = omega arith in
      ap (λ n. get_or (E Tec ++ (E Rms ++ E Height)) n (pos 0)) e ∙ at_front (pos 0) (E Tec) (E Rms ++ E Height) i (omega (arith, l Tec))
  thirds_at Rms i b = at_behind (pos 0) (E Tec) (E Rms ++ E Height) s i (l Tec) ∙ at_front (pos 0) (E Rms) (E Height) i (omega (arith, l Rms))
  thirds_at Height i b =
      let e : s + s + i ≡ s + (s + i) = omega arith in
      ap (λ n. get_or (E Tec ++ (E Rms ++ E Height)) n (pos 0)) e
      ∙ at_behind (pos 0) (E Tec) (E Rms ++ E Height) s (s + i) (l Tec) ∙ at_behind (pos 0) (E Rms) (E Height) s i (l Rms)

pick_length : {P : Type 0} (d : Dec P) (N : ℕ) (l : List ℤ) → length l ≡ pick d 0 N → length (pick d (replicate N (pos 9999)) l) ≡ N
unfolding pick
pick_length (yes p) N l e = length-replicate N (pos 9999)
pick_length (no n) N l e = e

area_length : (m B C : ℕ) (a : Areas) → Sixfold m B C a → (kd : Kind) → ¬ Nowhere kd a.marks → length (area kd a) ≡ m * B * C
area_length m B C a f Tec n = f.tec
area_length m B C a f Rms n = f.rms ∙ pick_no (nowhere? Rms a.marks) 0 (m * B * C) n
area_length m B C a f Height n = f.height ∙ pick_no (nowhere? Height a.marks) 0 (m * B * C) n

exponent_of : (m B C : ℕ) (a : Areas) → Sixfold m B C a → (kd : Kind) (i : ℕ) → i < m * B
    → get_or a.exponents (first_of kd (m * B) + i) (pos 0) ≡ get_or (third kd (m * B) a.exponents) i (pos 0)
exponent_of m B C a f kd i l =
    ap (λ es. get_or es (first_of kd (m * B) + i) (pos 0)) (sym (thirds_back (m * B) a.exponents f.exponents))
    ∙ thirds_at (m * B) (λ k. third k (m * B) a.exponents) (third_length (m * B) a.exponents f.exponents) kd i l

-- ---- the front of one list, then another
module _ {X : Type 0} (z : X) (K : ℕ) (f g : List X) (h : K ≤ length f) where
  in_front : (i : ℕ) → i < K → get_or (take K f ++ g) i z ≡ get_or f i z
  in_front i l = at_front z (take K f) g i (omega (arith, length-take-le K f h)) ∙ get_or-take K f i z l

  behind : (i : ℕ) → get_or (take K f ++ g) (K + i) z ≡ get_or g i z
  behind i = at_behind z (take K f) g K i (length-take-le K f h)

module _ (m n B C : ℕ) (a b : Areas) (f : Sixfold m B C a) (g : Sixfold n B C b) (some_maps : 1 ≤ m) where
  abbrev k : ℕ
  k = m - 1

  abbrev j : Areas
  j = beside m n B C a b

  -- ---- marks
  fewer : k ≤ length a.marks
  fewer = omega (arith, f.marks)

  mark_early : (i : ℕ) → i < k → get_or j.marks i 0 ≡ get_or a.marks i 0
  unfolding beside
  mark_early i h = in_front 0 k a.marks b.marks fewer i h

  mark_late : (i : ℕ) → get_or j.marks (k + i) 0 ≡ get_or b.marks i 0
  unfolding beside
  mark_late i = behind 0 k a.marks b.marks fewer i

  marks_count : length j.marks ≡ k + n
  unfolding beside
  marks_count = length-append (take k a.marks) b.marks ∙ omega (arith, length-take-le k a.marks fewer, g.marks)

  -- ---- values
  blocks_fewer : k * B ≤ m * B
  blocks_fewer = mul-le-mul_right B (omega arith)

  values_fewer : k * B * C ≤ m * B * C
  values_fewer = mul-le-mul_right C blocks_fewer

  full_length : (kd : Kind) → length (full m B C kd a) ≡ m * B * C
  full_length Tec = pick_elim (λ l. length l ≡ m * B * C) (nowhere? Tec a.marks) (λ _. length-replicate (m * B * C) (pos 9999)) (λ _. f.tec)
  full_length Rms = pick_length (nowhere? Rms a.marks) (m * B * C) a.rms f.rms
  full_length Height = pick_length (nowhere? Height a.marks) (m * B * C) a.height f.height

  area_early : (kd : Kind) → ¬ Nowhere kd (marks_beside m n B C a b) → ¬ Nowhere kd a.marks → (r : List ℤ) × (area kd j ≡ take (k * B * C) (area kd a) ++ r)
  unfolding beside
  area_early Tec p q = (b.tec, refl)
  area_early Rms p q = (full n B C Rms b, pick_no (nowhere? Rms (marks_beside m n B C a b)) _ _ p ∙ ap (λ l. take (k * B * C) l ++ full n B C Rms b) (pick_no (nowhere? Rms a.marks) _ _ q))
  area_early Height p q = (full n B C Height b, pick_no (nowhere? Height (marks_beside m n B C a b)) _ _ p ∙ ap (λ l. take (k * B * C) l ++ full n B C Height b) (pick_no (nowhere? Height a.marks) _ _ q))

  area_late : (kd : Kind) → ¬ Nowhere kd (marks_beside m n B C a b) → ¬ Nowhere kd b.marks → (r : List ℤ) × (k * B * C ≤ length r) × (area kd j ≡ take (k * B * C) r ++ area kd b)
  unfolding beside
  area_late Tec p q = (a.tec, omega (arith, f.tec, values_fewer), refl)
  area_late Rms p q = (full m B C Rms a, omega (arith, full_length Rms, values_fewer), pick_no (nowhere? Rms (marks_beside m n B C a b)) _ _ p ∙ ap (λ l. take (k * B * C) (full m B C Rms a) ++ l) (pick_no (nowhere? Rms b.marks) _ _ q))
  area_late Height p q = (full m B C Height a, omega (arith, full_length Height, values_fewer), pick_no (nowhere? Height (marks_beside m n B C a b)) _ _ p ∙ ap (λ l. take (k * B * C) (full m B C Height a) ++ l) (pick_no (nowhere? Height b.marks) _ _ q))

  -- ---- exponents
  abbrev E : Kind → List ℤ
  E = exponents_beside m n B C a b

  third_fewer : (kd : Kind) → k * B ≤ length (third kd (m * B) a.exponents)
  third_fewer kd = omega (arith, third_length (m * B) a.exponents f.exponents kd, blocks_fewer)

  E_length : (kd : Kind) → length (E kd) ≡ (k + n) * B
  E_length kd =
      length-append (take (k * B) (third kd (m * B) a.exponents)) (third kd (n * B) b.exponents)
      ∙ omega (arith, length-take-le (k * B) (third kd (m * B) a.exponents) (third_fewer kd), third_length (n * B) b.exponents g.exponents kd, add-mul k n B)

  exponent_joined : (kd : Kind) (i : ℕ) → i < (k + n) * B → get_or j.exponents (first_of kd ((k + n) * B) + i) (pos 0) ≡ get_or (E kd) i (pos 0)
  unfolding beside
  exponent_joined kd i l = thirds_at ((k + n) * B) E E_length kd i l

  exponent_early : (kd : Kind) (i : ℕ) → i < k * B → get_or a.exponents (first_of kd (m * B) + i) (pos 0) ≡ get_or j.exponents (first_of kd ((k + n) * B) + i) (pos 0)
  exponent_early kd i l =
      exponent_of m B C a f kd i (omega (arith, blocks_fewer))
      ∙ sym (exponent_joined kd i (omega (arith, add-mul k n B))
      ∙ in_front (pos 0) (k * B) (third kd (m * B) a.exponents) (third kd (n * B) b.exponents) (third_fewer kd) i l)

  exponent_late : (kd : Kind) (i : ℕ) → i < n * B → get_or b.exponents (first_of kd (n * B) + i) (pos 0) ≡ get_or j.exponents (first_of kd ((k + n) * B) + (k * B + i)) (pos 0)
  exponent_late kd i l =
      exponent_of n B C b g kd i l
      ∙ sym (exponent_joined kd (k * B + i) (omega (arith, add-mul k n B))
      ∙ behind (pos 0) (k * B) (third kd (m * B) a.exponents) (third kd (n * B) b.exponents) (third_fewer kd) i)

  -- ---- numbers of a kind that is there
  number_early : (kd : Kind) (i x : ℕ) → i < k → Present kd (get_or a.marks i 0) → x < k * B * C → get_or (area kd a) x (pos 0) ≡ get_or (area kd j) x (pos 0)
  unfolding beside
  number_early kd i x h p l =
      let q : ¬ Nowhere kd a.marks = marked kd a.marks i (omega (arith, f.marks)) p in
      let q' : ¬ Nowhere kd j.marks = marked kd j.marks i (omega (arith, marks_count)) (rw (mark_early i h) p) in
      let (r, e) = area_early kd q' q in
      sym (ap (λ l. get_or l x (pos 0)) e ∙ in_front (pos 0) (k * B * C) (area kd a) r (omega (arith, area_length m B C a f kd q, values_fewer)) x l)

  number_late : (kd : Kind) (i x : ℕ) → i < n → Present kd (get_or b.marks i 0) → get_or (area kd b) x (pos 0) ≡ get_or (area kd j) (k * B * C + x) (pos 0)
  unfolding beside
  number_late kd i x h p =
      let q : ¬ Nowhere kd b.marks = marked kd b.marks i (omega (arith, g.marks)) p in
      let q' : ¬ Nowhere kd j.marks = marked kd j.marks (k + i) (omega (arith, marks_count)) (rw (mark_late i) p) in
      let (r, l, e) = area_late kd q' q in
      sym (ap (λ l. get_or l (k * B * C + x) (pos 0)) e ∙ behind (pos 0) (k * B * C) r (area kd b) l x)

-- ---- a node
module _ (m n L R C : ℕ) (a b : Areas) (f : Sixfold m (L * R) C a) (g : Sixfold n (L * R) C b) (some_maps : 1 ≤ m)
    (kind layer : ℕ) (inside : layer < L) (w : Weighed) (row : w.row < R) (column : w.column < C) where
  abbrev pub of_maps : ℕ → Shape
  of_maps N = record { kind = kind; layer = layer; maps = N; layers = L; rows = R; columns = C }

  abbrev kd : Kind
  kd = kind_of kind

  abbrev pub joint : Areas
  joint = beside m n (L * R) C a b

  -- where it stands among N maps
  block_in : (N : ℕ) → w.map < N → block (of_maps N) w < N * (L * R)
  block_in N h = rw (← mul_assoc N L R) (digits_lt (digits_lt h inside) row)

  number_in : (N : ℕ) → w.map < N → number_at (of_maps N) w < N * (L * R) * C
  number_in N h = digits_lt (block_in N h) column

  -- and d maps later
  block_later : (d N : ℕ) → block (of_maps N) (later d w) ≡ d * (L * R) + block (of_maps N) w
  block_later d N = omega arith

  number_later : (d N : ℕ) → number_at (of_maps N) (later d w) ≡ d * (L * R) * C + number_at (of_maps N) w
  number_later d N = ap (λ x. x * C + w.column) (block_later d N) ∙ omega (arith, add-mul (d * (L * R)) (block (of_maps N) w) C)

  pub value_early : w.map < m - 1
      → value (of_maps m) (area kd a) a.exponents a.marks w ≡ value (of_maps (m - 1 + n)) (area kd joint) joint.exponents joint.marks (later 0 w)
  unfolding value
  value_early h =
      let o : w.map ≡ 0 + w.map = omega arith in
      worth_same kd (get_or a.marks w.map 0) _ _ _ _
      (λ p. (
        number_early m n (L * R) C a b f g some_maps kd w.map (number_at (of_maps m) w) h p (number_in (m - 1) h),
        exponent_early m n (L * R) C a b f g some_maps kd (block (of_maps m) w) (block_in (m - 1) h),
      ))
      ∙ ap (λ x. worth kd x (get_or (area kd joint) (number_at (of_maps m) w) (pos 0)) (get_or joint.exponents (exponent_at (of_maps (m - 1 + n)) w) (pos 0))) (sym (mark_early m n (L * R) C a b f g some_maps w.map h))
      ∙ ap (λ i. value (of_maps (m - 1 + n)) (area kd joint) joint.exponents joint.marks (record { weight = w.weight; map = i; row = w.row; column = w.column })) o

  pub value_late : w.map < n
      → value (of_maps n) (area kd b) b.exponents b.marks w ≡ value (of_maps (m - 1 + n)) (area kd joint) joint.exponents joint.marks (later (m - 1) w)
  unfolding value
  value_late h =
      worth_same kd (get_or b.marks w.map 0) _ _ (get_or (area kd joint) (number_at (of_maps n) (later (m - 1) w)) (pos 0)) (get_or joint.exponents (exponent_at (of_maps (m - 1 + n)) (later (m - 1) w)) (pos 0))
      (λ p. (
        number_late m n (L * R) C a b f g some_maps kd w.map (number_at (of_maps n) w) h p
            ∙ ap (λ x. get_or (area kd joint) x (pos 0)) (sym (number_later (m - 1) n)),
        exponent_late m n (L * R) C a b f g some_maps kd (block (of_maps n) w) (block_in n h)
            ∙ ap (λ x. get_or joint.exponents (first_of kd ((m - 1 + n) * (L * R)) + x) (pos 0)) (sym (block_later (m - 1) n)),
      ))
      ∙ ap (λ x. worth kd x (get_or (area kd joint) (number_at (of_maps n) (later (m - 1) w)) (pos 0)) (get_or joint.exponents (exponent_at (of_maps (m - 1 + n)) (later (m - 1) w)) (pos 0)))
      (sym (mark_late m n (L * R) C a b f g some_maps w.map))
