-- `indexed_as_read`: by the index made of a text, every node of every map that is there is answered as the full reading has it.
use mathlib.Core.Path.{◌≡◌, refl, sym, ap, subst, ◌∙◌}
use mathlib.Core.Logic.{inl}
use mathlib.Core.List.{List, [], ◌∷◌, ◌++◌, append-nil}
use Prim.Native.Nat.{ℕ, zero, suc, ◌+◌, ◌-◌, ◌*◌, ◌≤◌, ◌<◌}
use native.Mathlib.Omega.{arith}
use native.Mathlib.Nat.{suc-mul, mul-le-mul_right}
use lib.IntN.{pos, negsuc}
use lib.ListN.{get_or-append, length, get_or, set, drop, replicate, length-append, length-replicate, length-set}
use lib.Seq.{drop-length, get_or-take, get_or-drop, take_at}
use Rattle.kit.specs.Answer.{All}
use Rattle.kit.specs.Lists.{front}
use Rattle.mapset.specs.declared.Kind.{Kind}
use Rattle.mapset.specs.declared.Kind.TheVariants.{Tec, Rms, Height}
use Rattle.mapset.specs.declared.Header.{Header}
use Rattle.mapset.specs.Grid.{rows, columns}
use Rattle.mapset.specs.MapSet.{Maps, MapSet}
use Rattle.mapset.specs.Areas.{Areas, Present, value_need, Room}
use Rattle.layout.specs.Layout.{Exponent, per_map, maps, plain, Rows, Makes, makes}
use Rattle.areas.specs.Flat.{areas, areas_of, found, there, mark}
use Rattle.areas.specs.Lists.{tab}
use Rattle.areas.specs.Valid.{values_in}
use Rattle.areas.specs.Events as event
use Rattle.areas.specs.Events.{Event}
use Rattle.areas.specs.Stores.{put_values, put_exponent, scan, scanned, cleared, lengths}
use Rattle.areas.specs.Places.{before}
use Rattle.areas.specs.Fronts.{fronts as all_fronts}
use Rattle.areas.specs.Scan.{events}
use Rattle.areas.proofs.ListLaws.{tab_all, fill_length}
use Rattle.areas.proofs.Needs.{needs, present_bit}
use Rattle.areas.proofs.Made.{rows_formed}
use Rattle.areas.proofs.ScanRows.{at_maps, brings_told}
use Rattle.areas.proofs.Scanned.{rows_begin, scan_leaves, scan_stays}
use Rattle.areas.proofs.Nested.{mark_low}
use Rattle.index.specs.Stands.{Stands}
use Rattle.index.specs.Index.{Index, Fit, Node, Inside, Entries, index, done, entry, block_in, number_in, exponent_in, given, go, position, exponent, Pointed}
use Rattle.index.specs.AsRead.{AsRead}
use Rattle.ask_nodes.specs.Value.{kind_of}
use Rattle.index.specs.Made.{Placed, just_rows, placed_from, opened, maps_of, put_starts, positions_of, entries_of, fronts}
use Rattle.index.proofs.Lines.{Lies, lies}
use Rattle.index.proofs.Begin.{rows_exponent, lies_rows, lies_maps}
use Rattle.index.proofs.Told.{Matched, matched}
use Rattle.mapset.proofs.FirstLaws.{first_in}
use Rattle.index.proofs.Kept.{Has, Agree, agree}
use Rattle.index.proofs.Cover.{Among, cover}

-- ---- lengths

front_self : {A : Type 0} (l : List A) → front l l ≡ l
front_self l = ap (λ r. l ++ r) (drop-length l) ∙ append-nil l

pub starts_length : (n B : ℕ) (es : List Event) (os l : List ℕ) → length (put_starts n B es os l) ≡ length l
starts_length n B [] os l = refl
starts_length n B (event.epoch i e ∷ es) os l = starts_length n B es os l
starts_length n B (event.marked k i ∷ es) os l = starts_length n B es os l
starts_length n B (event.block k i b x ∷ es) [] l = refl
starts_length n B (event.block k i b x ∷ es) (a ∷ os) l = starts_length n B es os (set l _ a) ∙ length-set l _ a

tab_at : {A : Type 0} (i k j : ℕ) (f : ℕ → A) (d : A) → j < k → get_or (tab i k f) j d ≡ f (i + j)
tab_at i zero j f d h = absurd (omega arith)
tab_at i (suc k) zero f d h = ap f (omega arith)
tab_at i (suc k) (suc j) f d h = let e : suc i + j ≡ i + suc j = omega arith in tab_at (suc i) k j f d (omega arith) ∙ ap f e

-- ---- the index of a text's rows

module _ {m : MapSet} {rs : List (List ℕ)} (r : Rows m rs) where
  room : Room m.header (areas m).marks (areas m)
  room =
      let e = needs m (rows_formed r) in
      record { tec = omega (arith, e.tec); rms = omega (arith, e.rms); height = omega (arith, e.height); exponents = omega (arith, e.exponents); epochs = omega (arith, e.epochs); marks = omega (arith, e.marks) }

  -- before the second scan
  unfoldable blank : Areas
  blank = cleared m.header.times.maps (per_map m.header) (value_need Rms m.header (areas m).marks) (value_need Height m.header (areas m).marks) (areas m)

  blank_length : (k : Kind) → lengths (areas m) k ≡ length (values_in k (blank))
  unfolding blank cleared
  blank_length Tec = refl
  blank_length Rms = sym (fill_length (pos 9999) (value_need Rms m.header (areas m).marks) (areas m).rms room.rms)
  blank_length Height = sym (fill_length (pos 9999) (value_need Height m.header (areas m).marks) (areas m).height room.height)

  blank_exponents : 3 * (m.header.times.maps * per_map m.header) ≤ length blank.exponents
  unfolding blank cleared
  blank_exponents = omega (arith, fill_length (negsuc 0) (3 * (m.header.times.maps * per_map m.header)) (areas m).exponents room.exponents, room.exponents)

  abbrev brings : List Event
  brings = events (columns m.header.grid) rs

  left_values : (k : Kind) → scan (put_values (per_map m.header) (columns m.header.grid) k) (brings) (values_in k (blank)) ≡ values_in k (areas m)
  unfolding blank scanned all_fronts
  left_values Tec = ap (λ (a : Areas). a.tec) (scan_leaves r (areas m) room) ∙ front_self (areas m).tec
  left_values Rms = ap (λ (a : Areas). a.rms) (scan_leaves r (areas m) room) ∙ front_self (areas m).rms
  left_values Height = ap (λ (a : Areas). a.height) (scan_leaves r (areas m) room) ∙ front_self (areas m).height

  left_exponents : scan (put_exponent m.header.times.maps (per_map m.header)) (brings) blank.exponents ≡ (areas m).exponents
  unfolding blank scanned all_fronts
  left_exponents = ap (λ (a : Areas). a.exponents) (scan_leaves r (areas m) room) ∙ front_self (areas m).exponents

  module _ (t : List ℕ) (ps : Placed) (x : Lies t ps rs) where
    told_here : Matched m.header t (brings) (opened (columns m.header.grid) 0 (maps_of plain (negsuc 0) ps).1)
    unfolding events
    told_here =
        subst (λ es. Matched m.header t es (opened (columns m.header.grid) 0 (maps_of plain (negsuc 0) ps).1)) (sym (brings_told (rows_begin r) (at_maps Tec 0 0)))
        (matched t m.header (rows_begin r) tt (rows_exponent r) (lies_maps x plain (negsuc 0)))

    module _ (k : Kind) (i d : ℕ) (l : 1 ≤ i) (u : d < per_map m.header) (f : before (per_map m.header) i d < m.header.times.maps * per_map m.header) (a : Among k i 0 m.maps) where
      brought_here : Has k i d (brings)
      unfolding events
      brought_here = subst (Has k i d) (sym (brings_told (rows_begin r) (at_maps Tec 0 0))) (cover m.header k i d u (rows_begin r) a)

      pub agrees : Agree t m.header m.header.times.maps (columns m.header.grid) (lengths (areas m)) k i d (values_in k (areas m)) (areas m).exponents (positions_of m.header ps)
      unfolding positions_of
      agrees =
          let h : Header = m.header in
          let n : ℕ = h.times.maps in
          let C : ℕ = columns h.grid in
          let z : List ℕ = replicate (3 * (n * per_map h)) 0 in
          let os : List ℕ = opened C 0 (maps_of plain (negsuc 0) ps).1 in
          let g = agree t h n C (lengths (areas m)) k i d l u f told_here (scan_stays r (areas m) room) (values_in k blank) blank.exponents z
          (blank_length k) blank_exponents (omega (arith, length-replicate {A = ℕ} (3 * (n * per_map h)) 0)) (inl brought_here) in
          let e : brings ≡ events C (just_rows ps) = ap (events C) (sym (lies_rows x)) in
          subst (λ w. Agree t h n C (lengths (areas m)) k i d (values_in k (areas m)) (areas m).exponents (put_starts n (per_map h) w os z)) e
          (subst (λ w. Agree t h n C (lengths (areas m)) k i d w (areas m).exponents (put_starts n (per_map h) brings os z)) (left_values k)
          (subst (λ w. Agree t h n C (lengths (areas m)) k i d (scan (put_values (per_map h) C k) brings (values_in k blank)) w (put_starts n (per_map h) brings os z)) left_exponents g))

-- ---- a node in its map

-- the block's place in its map
pub done_in : (h : Header) (q : Node) → Inside h q → done h q < per_map h
done_in h q i = omega (arith, i.row, mul-le-mul_right (rows h.grid) i.layer, suc-mul q.layer (rows h.grid))

pub before_in : (n B i d : ℕ) → 1 ≤ i → i ≤ n → d < B → before B i d < n * B
before_in n B i d l u h = let s : suc (i - 1) ≤ n = omega arith in omega (arith, mul-le-mul_right B s, suc-mul (i - 1) B)

-- a map that is marked is there
module _ (m : Maps) (n : ℕ) where
  abbrev marks : List ℕ
  marks = tab 1 n (λ i. mark (there (found m.rms i)) (there (found m.height i)))

  mark_at : (i : ℕ) → 1 ≤ i → i ≤ n → get_or (marks) (i - 1) 0 ≡ mark (there (found m.rms i)) (there (found m.height i))
  mark_at i l u =
      let e : 1 + (i - 1) ≡ i = omega arith in
      tab_at 1 n (i - 1) (λ i. mark (there (found m.rms i)) (there (found m.height i))) 0 (omega arith)
      ∙ ap (λ j. mark (there (found m.rms j)) (there (found m.height j))) e

  among : (k : Kind) (i : ℕ) → 1 ≤ i → i ≤ n → length m.tec ≡ n → Present k (get_or (marks) (i - 1) 0) → Among k i 0 m
  among Tec i l u z p = (l, omega arith)
  among Rms i l u z p = present_bit Rms (there (found m.rms i)) (there (found m.height i)) (subst (Present Rms) (mark_at i l u) p)
  among Height i l u z p = present_bit Height (there (found m.rms i)) (there (found m.height i)) (subst (Present Height) (mark_at i l u) p)

-- ---- the theorem

front_at : {A : Type 0} (a l : List A) (k i : ℕ) (d : A) → length a ≡ k → i < k → get_or (front a l) i d ≡ get_or a i d
front_at a l k i d e h = get_or-append a (drop (length a) l) d i (omega arith)

front_long : {A : Type 0} (a l : List A) (k : ℕ) → length a ≡ k → k ≤ length (front a l)
front_long a l k e = omega (arith, length-append a (drop (length a) l))

module _ {m : MapSet} {rs : List (List ℕ)} (r : Rows m rs) (t : List ℕ) where
  abbrev h : Header
  h = m.header

  pub positions_length : length (entries_of m t).positions ≡ 3 * (m.header.times.maps * per_map m.header)
  unfolding positions_of
  positions_length =
      starts_length h.times.maps (per_map h) (events (columns h.grid) (just_rows (placed_from t 0))) (opened (columns h.grid) 0 (maps_of plain (negsuc 0) (placed_from t 0)).1)
      (replicate (3 * (h.times.maps * per_map h)) 0)
      ∙ length-replicate {A = ℕ} (3 * (h.times.maps * per_map h)) 0

  small : All (λ c. c ≤ 3) (areas m).marks
  unfolding areas_of
  small = tab_all (λ c. c ≤ 3) 1 h.times.maps _ (λ i. mark_low (there (found m.maps.rms i)) (there (found m.maps.height i)))

  module _ (l : Entries) where
    abbrev made : Index
    made = index m.header m.texts (fronts (entries_of m t) l)

    pub fits : Fit (made)
    fits =
        let e = needs m (rows_formed r) in
        record {
          header = (rows_formed r).header;
          positions = front_long (entries_of m t).positions l.positions _ positions_length;
          exponents = front_long (areas m).exponents l.exponents _ (omega (arith, e.exponents));
          marks = front_long (areas m).marks l.marks _ (omega (arith, e.marks));
          marked = subst (All (λ c. c ≤ 3)) (sym (take_at (areas m).marks (drop (length (areas m).marks) l.marks) h.times.maps (omega (arith, e.marks)))) small;
        }

-- for what is made of a text in front of any list: a node of a map that is there
pub indexed_as_read : {m : MapSet} {t : List ℕ} → Makes m t → (l : Entries) (q : Node) → q.kind < 3 → Inside m.header q
    → Present (kind_of q.kind) (get_or (areas m).marks (q.map - 1) 0) → AsRead m t (index m.header m.texts (fronts (entries_of m t) l)) q
unfolding areas_of
indexed_as_read {m} {t} (makes {rs} {ls} r z e) l q known i p =
    let h : Header = m.header in
    let x : Index = index h m.texts (fronts (entries_of m t) l) in
    let d = done_in h q i in
    let b = before_in h.times.maps (per_map h) q.map (done h q) i.map.0 i.map.1 d in
    let a = among m.maps h.times.maps (kind_of q.kind) q.map i.map.0 i.map.1 (rows_formed r).maps.count p in
    let g = agrees r t (placed_from t 0) (lies t 0 z e refl) (kind_of q.kind) q.map (done h q) i.map.0 d b a in
    let k : entry h q < 3 * (h.times.maps * per_map h) = first_in (kind_of q.kind) (h.times.maps * per_map h) _ b in
    let n = needs m (rows_formed r) in
    let o : position x q ≡ get_or (entries_of m t).positions (entry h q) 0 = front_at (entries_of m t).positions l.positions _ (entry h q) 0 (positions_length r t) k in
    let f : exponent x q ≡ exponent_in h (areas m) q = front_at (areas m).exponents l.exponents _ (entry h q) (pos 0) n.exponents k in
    let y : get_or x.marks (q.map - 1) 0 ≡ get_or (areas m).marks (q.map - 1) 0 = front_at (areas m).marks l.marks _ (q.map - 1) 0 n.marks (omega (arith, i.map)) in
    let v : number_in h (areas m) q ≡ get_or (block_in h (areas m) q) q.column (pos 0) =
    sym (get_or-take (columns h.grid) _ q.column (pos 0) i.column ∙ get_or-drop _ (values_in (kind_of q.kind) (areas m)) q.column (pos 0)) in
    let s : Stands h (done h q) (drop (position x q) t) (block_in h (areas m) q) g.bytes = subst (λ j. Stands h (done h q) (drop j t) (block_in h (areas m) q) g.bytes) (sym o) g.stands in
    let w : Pointed h (done h q) (drop (position x q) t) (exponent x q) = record { values = block_in h (areas m) q; lines = g.bytes; stands = s; exponent = subst Exponent (sym f) g.exponent } in
    record {
      lines = g.bytes;
      stands = s;
      replies = go known (go (fits r t l) (go i (go (subst (Present (kind_of q.kind)) (sym y) p) (go w (λ j. given (v j) (sym f j) g.bytes)))));
    }
