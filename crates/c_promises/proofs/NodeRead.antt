-- Ask 8 over the contracts of `ionex_index`, `ionex_indexed_node` and `ionex_read`: a node by the index made of a text is what the full reading of that text gives.
use mathlib.Core.Path.{◌≡◌, refl, sym, ap, subst, ◌∙◌}
use mathlib.Core.Logic.{⊎_elim}
use mathlib.Core.List.{List, [], ◌∷◌}
use mathlib.Core.Option.{Option, none, some}
use Prim.Native.Nat.{ℕ, suc, ◌+◌, ◌-◌, ◌*◌, ◌≤◌, ◌<◌}
use native.Mathlib.Decide.{ℕ_discrete, dec_le}
use native.Mathlib.Nat.{suc-mul, mul-le-mul_right}
use native.Mathlib.Omega.{arith}
use lib.IntN.{ℤ, pos}
use lib.ListN.{get_or-append, length, get_or, drop, length-append, length-drop}
use Rattle.kit.specs.Answer.{Answer, ok, refused}
use Rattle.kit.specs.Lists.{front}
use Rattle.kit.proofs.AnswerLaws.{pick_yes, pick_no}
use Rattle.kit.proofs.ListLaws.{all_at}
use Rattle.mapset.specs.declared.Kind.{Kind}
use Rattle.mapset.specs.declared.Kind.TheVariants.{Tec, Rms, Height}
use Rattle.mapset.specs.declared.Header.{Header}
use Rattle.mapset.specs.Grid.{columns}
use Rattle.mapset.specs.Header.{HeaderRules}
use Rattle.mapset.specs.MapSet.{MapSet}
use Rattle.mapset.specs.Areas.{Areas, Present, nowhere?, values}
use Rattle.mapset.proofs.FirstLaws.{first_in}
use Rattle.layout.specs.Layout.{Makes, makes, per_map}
use Rattle.reading.specs.declared.Why.{Why}
use Rattle.reading.specs.Feed.{split}
use Rattle.reading.specs.Read.{read}
use Rattle.reading.proofs.Exact.{read_made, made_read}
use Rattle.reading.specs.Refusals.{Cause, too_long, bad_byte, by_row}
use Rattle.reading.proofs.FaultLaws.{refusals, ten_at}
use Rattle.reading.proofs.RefusalLaws.{not_short}
use Rattle.areas.specs.Flat.{areas}
use Rattle.areas.specs.Formed.{Formed}
use Rattle.areas.specs.Fronts.{fronts as all_fronts}
use Rattle.areas.specs.Places.{before, place}
use Rattle.areas.specs.Valid.{values_in}
use Rattle.areas.proofs.Made.{rows_formed}
use Rattle.areas.proofs.Needs.{needs}
use Rattle.ask_nodes.specs.Value.{kind_of}
use Rattle.read_needs.specs.Needs.{first_short, needed_and_lent}
use Rattle.read_outcome.specs.Outcome as outcome
use Rattle.c_header.specs.Numbers.{numbers, text_bytes}
use Rattle.c_given.specs.Given.{header_of, texts_of}
use Rattle.c_answers.specs.Own.{too_short}
use Rattle.c_answers.specs.ReadExported as reading
use Rattle.c_answers.proofs.OwnLaws.{Fit, fit, unless_none, unless_short}
use Rattle.c_answers.proofs.Back.{header_back, texts_back}
use Rattle.index.specs.Stands.{Stands}
use Rattle.index.specs.Index.{Entries, index, Node, Inside, done, entry, block_in, number_in, exponent_in, given, position, Replies}
use Rattle.index.specs.Made.{entries_of, fronts}
use Rattle.index.proofs.Once.{reply_once}
use Rattle.index.proofs.AsRead.{done_in, before_in, indexed_as_read}
use Rattle.index_text.specs.Making as making
use Rattle.index_text.specs.Making.{made_of, made}
use Rattle.c_index.specs.Crossed as node
use Rattle.c_index.specs.Crossed.{NodeCrosses, BlockCrosses, index_of, told_number, told_value, told_bounds}
use Rattle.c_index.specs.IndexExported.{Crossed, crossed, crosses, index_crossed}

-- ---- areas
front_long : {A : Type 0} (a l : List A) → length l ≤ length (front a l)
front_long a l = omega (arith, length-append a (drop (length a) l), length-drop (length a) l)

front_at : {A : Type 0} (a l : List A) (i : ℕ) (d : A) → i < length a → get_or (front a l) i d ≡ get_or a i d
front_at a l i d h = get_or-append a (drop (length a) l) d i h

formed_of : {m : MapSet} {t : List ℕ} → Makes m t → Formed m
formed_of (makes r z e) = rows_formed r

-- where the map is there, the values of its kind are all there
there : (k : Kind) (m : MapSet) → Formed m → (i : ℕ) → Present k (get_or (areas m).marks i 0) → length (values_in k (areas m)) ≡ values m.header
there Tec m f i p = (needs m f).tec
there Rms m f i p = (needs m f).rms ∙ pick_no (nowhere? Rms (areas m).marks) 0 (values m.header) (λ a. all_at (λ k. ¬ Present Rms k) (areas m).marks i 0 a (λ o. ⊎_elim (λ e. omega (arith, e)) (λ e. omega (arith, e)) o) p)
there Height m f i p = (needs m f).height ∙ pick_no (nowhere? Height (areas m).marks) 0 (values m.header) (λ a. all_at (λ k. ¬ Present Height k) (areas m).marks i 0 a (λ o. ⊎_elim (λ e. omega (arith, e)) (λ e. omega (arith, e)) o) p)

values_front : (k : Kind) (a b : Areas) → values_in k (all_fronts a b) ≡ front (values_in k a) (values_in k b)
unfolding all_fronts
values_front Tec a b = refl
values_front Rms a b = refl
values_front Height a b = refl

module _ (m : MapSet) (f : Formed m) (b : Areas) (q : Node) (i : Inside m.header q) (p : Present (kind_of q.kind) (get_or (areas m).marks (q.map - 1) 0)) where
  abbrev h : Header
  h = m.header

  stands_before : before (per_map m.header) q.map (done m.header q) < m.header.times.maps * per_map m.header
  stands_before = before_in h.times.maps (per_map h) q.map (done h q) i.map.0 i.map.1 (done_in h q i)

  inside : place (per_map m.header) (columns m.header.grid) q.map (done m.header q) + q.column < values m.header
  inside =
      let s : suc (before (per_map h) q.map (done h q)) ≤ h.times.maps * per_map h = omega (arith, stands_before) in
      omega (arith, mul-le-mul_right (columns h.grid) s, suc-mul (before (per_map h) q.map (done h q)) (columns h.grid), i.column)

  -- in front of any areas the node's number and exponent are the same
  number_front : number_in m.header (all_fronts (areas m) b) q ≡ number_in m.header (areas m) q
  number_front =
      ap (λ (l : List ℤ). get_or l (place (per_map h) (columns h.grid) q.map (done h q) + q.column) (pos 0)) (values_front (kind_of q.kind) (areas m) b)
      ∙ front_at (values_in (kind_of q.kind) (areas m)) (values_in (kind_of q.kind) b) _ (pos 0) (omega (arith, inside, there (kind_of q.kind) m f (q.map - 1) p))

  exponent_front : exponent_in m.header (all_fronts (areas m) b) q ≡ exponent_in m.header (areas m) q
  unfolding all_fronts
  exponent_front =
      front_at (areas m).exponents b.exponents (entry h q) (pos 0)
      (omega (arith, first_in (kind_of q.kind) (h.times.maps * per_map h) _ stands_before, (needs m f).exponents))

-- ---- the areas of a call's own
none_short : (h x r n : ℕ) → 45 ≤ h → 1324 ≤ x → n ≤ r → too_short h x r n ≡ 0
unfolding too_short
none_short h x r n a b c = pick_yes (dec_le 45 h) _ _ a ∙ pick_yes (dec_le 1324 x) _ _ b ∙ pick_yes (dec_le n r) _ _ c

-- ---- `ionex_read` answered 0

-- no refusal of a text is numbered 0
some_number : (t : List ℕ) (w : Why) → read t ≡ refused w → ¬ (w.number ≡ 0)
some_number t w e z = ⊎_elim (λ x. other x.cause) (λ x. not_short (suc (length (split t))) (sym (ten_at t w x) ∙ e) (λ k. omega (arith, z, k))) (refusals t w e)
  where
    other : {l : List ℕ} → Cause l w → ⊥
    other (too_long a b c) = omega (arith, z, a)
    other (bad_byte a b c d) = omega (arith, z, a)
    other (by_row a b c d) = omega (arith, z, a)

-- what it left: the text is one of a map set, whose areas stand in front of the areas lent and whose header stands as numbers in front of the header lent
record Had (t : List ℕ) (b : Areas) (gs : List ℤ) (d : reading.Crossed) : Type 0 where
  set : MapSet
  made : Makes set t
  areas : d.areas ≡ all_fronts (areas set) b
  header : d.header ≡ front (numbers set.header) gs

module _ (t : List ℕ) (b : Areas) (gs : List ℤ) (ys ss : List ℕ) (d : reading.Crossed) (f : d ≡ reading.read_crossed t b gs ys ss) (z : d.number ≡ 0) where
  abbrev read_short : ℕ
  read_short = too_short (length gs) (length ys) (length ss) 2

  had : Had t b gs d
  unfolding reading.read_crossed
  had = by (ℕ_discrete read_short 0)
    where
      room : (m : MapSet) → Makes m t → (s : Option (ℕ × ℕ)) → d ≡ reading.crosses (outcome.with_room m b s) gs ys ss → Had t b gs d
      room m k none e = unfold outcome.with_room reading.crosses in record { set = m; made = k; areas = ap (λ (c : reading.Crossed). c.areas) e; header = ap (λ (c : reading.Crossed). c.header) e }
      room m k (some s) e = unfold outcome.with_room reading.crosses in let n : ◌≡◌ {A = ℕ} 11 0 = sym (ap (λ (c : reading.Crossed). c.number) e) ∙ z in absurd (omega (arith, n))

      of : (r : Answer Why MapSet) → read t ≡ r → d ≡ reading.crosses (outcome.outcome_of r b) gs ys ss → Had t b gs d
      of (ok m) e g = unfold outcome.outcome_of in room m (made_read t e) (first_short 1 (needed_and_lent (areas m) b)) g
      of (refused w) e g = unfold outcome.outcome_of reading.crosses in absurd (some_number t w e (sym (ap (λ (c : reading.Crossed). c.number) g) ∙ z))

      by : Dec (read_short ≡ 0) → Had t b gs d
      by (no n) = absurd (n (sym (ap (λ (c : reading.Crossed). c.number) (f ∙ unless_short (reading.crosses (outcome.outcome t b) gs ys ss) (λ k. reading.crossed k b gs ys ss) (omega (arith, n)))) ∙ z))
      by (yes o) = of (read t) refl (f ∙ unless_none (reading.crosses (outcome.outcome t b) gs ys ss) (λ k. reading.crossed k b gs ys ss) o)

-- ---- `ionex_index` answered 0

-- what it left, of a text of the map set m
record Left (m : MapSet) (t : List ℕ) (l : Entries) (hs : List ℤ) (xs ps : List ℕ) (c : Crossed) : Type 0 where
  own : Fit (length hs) (length xs) (length ps) 2
  header : c.header ≡ front (numbers m.header) hs
  texts : c.texts ≡ front (text_bytes m.texts) xs
  entries : c.entries ≡ fronts (entries_of m t) l

module _ {m : MapSet} {t : List ℕ} (k : Makes m t) (l : Entries) (hs : List ℤ) (xs ps : List ℕ) (c : Crossed) (e : c ≡ index_crossed t l hs xs ps) (z : c.number ≡ 0) where
  abbrev short : ℕ
  short = too_short (length hs) (length xs) (length ps) 2

  left : Left m t l hs xs ps c
  unfolding index_crossed
  left = by (ℕ_discrete short 0)
    where
      room : Fit (length hs) (length xs) (length ps) 2 → (s : Option (ℕ × ℕ)) → c ≡ crosses (making.with_room m t l s) hs xs ps → Left m t l hs xs ps c
      room o none f = unfold making.with_room crosses in record { own = o; header = ap (λ (c : Crossed). c.header) f; texts = ap (λ (c : Crossed). c.texts) f; entries = ap (λ (c : Crossed). c.entries) f }
      room o (some s) f = unfold making.with_room crosses in let n : ◌≡◌ {A = ℕ} 11 0 = sym (ap (λ (c : Crossed). c.number) f) ∙ z in absurd (omega (arith, n))

      by : Dec (short ≡ 0) → Left m t l hs xs ps c
      by (no n) = absurd (n (sym (ap (λ (c : Crossed). c.number) (e ∙ unless_short (crosses (made t l) hs xs ps) (λ k. crossed k l hs xs ps) (omega (arith, n)))) ∙ z))
      by (yes o) =
          unfold making.made_of in
          room (fit (length hs) (length xs) (length ps) 2 (sym o) (omega arith)) (first_short 1 (making.needed_and_lent (entries_of m t) l))
          (e ∙ unless_none (crosses (made t l) hs xs ps) (λ k. crossed k l hs xs ps) o ∙ ap (λ r. crosses (made_of r t l) hs xs ps) (read_made k))

  -- as numbers and bytes it stands for the index of the text
  index_back : index_of c.header c.texts c.entries ≡ index m.header m.texts (fronts (entries_of m t) l)
  index_back =
      let r : HeaderRules m.header m.texts = (formed_of k).header in
      let a = ap header_of left.header ∙ header_back m.header m.texts (drop (length (numbers m.header)) hs) r in
      let b = ap texts_of left.texts ∙ texts_back m.header m.texts (drop (length (text_bytes m.texts)) xs) r in
      λ i. index (a i) (b i) (left.entries i)

  long_enough : (k : ℕ) → 2 ≤ k → ¬ (1 ≤ too_short (length c.header) (length c.texts) k 2)
  long_enough k two s =
      let a : length c.header ≡ length (front (numbers m.header) hs) = ap length left.header in
      let b : length c.texts ≡ length (front (text_bytes m.texts) xs) = ap length left.texts in
      let o = none_short (length c.header) (length c.texts) k 2 (omega (arith, a, front_long (numbers m.header) hs, left.own.header))
      (omega (arith, b, front_long (text_bytes m.texts) xs, left.own.texts)) two in
      omega (arith, s, o)

  -- a node of a map that is there: 0, with the number and exponent that the map set has
  module _ (q : Node) (known : q.kind < 3) (i : Inside m.header q) (p : Present (kind_of q.kind) (get_or (areas m).marks (q.map - 1) 0))
      (v : List ℤ) (two : 2 ≤ length v) (n : ℕ) (v' : List ℤ) (a : NodeCrosses c.header c.texts c.entries t q v n v') where
    pub node_crossed : (n ≡ 0) × (v' ≡ front (number_in m.header (areas m) q ∷ exponent_in m.header (areas m) q ∷ []) v)
    node_crossed = by a
      where
        by : {n : ℕ} {v' : List ℤ} → NodeCrosses c.header c.texts c.entries t q v n v' → (n ≡ 0) × (v' ≡ front (number_in m.header (areas m) q ∷ exponent_in m.header (areas m) q ∷ []) v)
        by (node.short j e s) = absurd (long_enough (length v) two (subst (λ j. 1 ≤ j) e s))
        by (node.answered o b r) =
            let x = indexed_as_read k l q known i p in
            let f : b ≡ given (number_in m.header (areas m) q) (exponent_in m.header (areas m) q) x.lines =
            reply_once (index m.header m.texts (fronts (entries_of m t) l)) t q b _ (subst (λ y. Replies y t q b) index_back r) x.replies in
            (ap told_number f, ap (λ b. front (told_value b) v) f)

  -- and `ionex_indexed_block`: 0, with where the block's lines start in the text and how many bytes they have; they are those of a block that stands there, of the
  -- map set's values
  module _ (q : Node) (known : q.kind < 3) (i : Inside m.header q) (p : Present (kind_of q.kind) (get_or (areas m).marks (q.map - 1) 0))
      (v : List ℕ) (two : 2 ≤ length v) (n : ℕ) (v' : List ℕ) (a : BlockCrosses c.header c.texts c.entries t q v n v') where
    abbrev at : ℕ
    at = position (index_of c.header c.texts c.entries) q

    pub block_crossed : (b : List ℕ) × (Stands m.header (done m.header q) (drop (at) t) (block_in m.header (areas m) q) b × ((n ≡ 0) × (v' ≡ front (at ∷ length b ∷ []) v)))
    block_crossed = by a
      where
        by : {n : ℕ} {v' : List ℕ} → BlockCrosses c.header c.texts c.entries t q v n v'
            → (b : List ℕ) × (Stands m.header (done m.header q) (drop (at) t) (block_in m.header (areas m) q) b × ((n ≡ 0) × (v' ≡ front (at ∷ length b ∷ []) v)))
        by (node.short j e s) = absurd (long_enough (length v) two (subst (λ j. 1 ≤ j) e s))
        by (node.answered o b r) =
            let x = indexed_as_read k l q known i p in
            let f : b ≡ given (number_in m.header (areas m) q) (exponent_in m.header (areas m) q) x.lines =
            reply_once (index m.header m.texts (fronts (entries_of m t) l)) t q b _ (subst (λ y. Replies y t q b) index_back r) x.replies in
            let s : Stands m.header (done m.header q) (drop (at) t) (block_in m.header (areas m) q) x.lines =
            subst (λ y. Stands m.header (done m.header q) (drop (position y q) t) (block_in m.header (areas m) q) x.lines) (sym index_back) x.stands in
            (x.lines, (s, (ap told_number f, ap (λ b. front (told_bounds (at) b) v) f)))

-- ---- the three calls, in the caller's numbers and areas alone

-- of one text t: `ionex_read` answered 0 and left d, `ionex_index` answered 0 and left c
module _ (t : List ℕ) (b : Areas) (gs : List ℤ) (ys ss : List ℕ) (d : reading.Crossed) (f : d ≡ reading.read_crossed t b gs ys ss) (y : d.number ≡ 0)
    (l : Entries) (hs : List ℤ) (xs ps : List ℕ) (c : Crossed) (e : c ≡ index_crossed t l hs xs ps) (z : c.number ≡ 0) where
  abbrev head : Header
  head = header_of d.header

  -- a node of the grid and of a map that is there, by d; and `ionex_indexed_node` of it, handed what c holds
  module _ (q : Node) (known : q.kind < 3) (i : Inside (header_of d.header) q) (p : Present (kind_of q.kind) (get_or d.areas.marks (q.map - 1) 0))
      (v : List ℤ) (two : 2 ≤ length v) (n : ℕ) (v' : List ℤ) (a : NodeCrosses c.header c.texts c.entries t q v n v') where
    -- answers 0, with the number and the exponent that d's areas hold
    pub node_as_left : (n ≡ 0) × (v' ≡ front (number_in (header_of d.header) d.areas q ∷ exponent_in (header_of d.header) d.areas q ∷ []) v)
    unfolding all_fronts
    node_as_left =
        let r = had t b gs ys ss d f y in
        let m = r.set in
        let k = r.made in
        let o : Formed m = formed_of k in
        let h : header_of d.header ≡ m.header = ap header_of r.header ∙ header_back m.header m.texts (drop (length (numbers m.header)) gs) o.header in
        let j : Inside m.header q = subst (λ x. Inside x q) h i in
        let u : get_or d.areas.marks (q.map - 1) 0 ≡ get_or (areas m).marks (q.map - 1) 0 =
        ap (λ (a : Areas). get_or a.marks (q.map - 1) 0) r.areas ∙ front_at (areas m).marks b.marks (q.map - 1) 0 (omega (arith, (needs m o).marks, j.map)) in
        let s : Present (kind_of q.kind) (get_or (areas m).marks (q.map - 1) 0) = subst (Present (kind_of q.kind)) u p in
        let w : number_in m.header (areas m) q ≡ number_in (header_of d.header) d.areas q =
        sym ((λ x. number_in (h x) (r.areas x) q) ∙ number_front m o b q j s) in
        let x : exponent_in m.header (areas m) q ≡ exponent_in (header_of d.header) d.areas q =
        sym ((λ x. exponent_in (h x) (r.areas x) q) ∙ exponent_front m o b q j s) in
        let g = node_crossed k l hs xs ps c e z q known j s v two n v' a in
        (g.0, g.1 ∙ (λ j. front (w j ∷ x j ∷ []) v))
