-- An accepted text and three areas: what they need, and what comes of the scan.
use mathlib.Core.Path.{◌≡◌, refl, sym, ap, subst, ◌∙◌}
use mathlib.Core.List.{List, [], ◌∷◌, ◌++◌}
use mathlib.Core.Option.{none, some}
use Prim.Native.Nat.{ℕ, ◌+◌, ◌*◌, ◌≤◌, ◌<◌}
use native.Mathlib.Omega.{arith}
use lib.IntN.{ℤ, negsuc}
use lib.ListN.{length, set, drop, replicate, length-replicate, length-set}
use lib.Seq.{set-append_left}
use Rattle.kit.specs.Answer.{refused, All}
use Rattle.kit.specs.Lists.{front}
use Rattle.mapset.specs.declared.Kind.{Kind}
use Rattle.mapset.specs.declared.Header.{Header}
use Rattle.mapset.specs.Described.{FullTexts}
use Rattle.mapset.specs.Grid.{columns, Limits}
use Rattle.mapset.specs.MapSet.{MapSet}
use Rattle.mapset.specs.Areas.{Areas, six, Room, first_of}
use Rattle.mapset.proofs.SoundLaws.{few_blocks}
use Rattle.layout.specs.Layout.{per_map, plain, Rows, Makes, makes}
use Rattle.reading.specs.declared.Why.{Why}
use Rattle.reading.specs.Read.{read}
use Rattle.reading.proofs.Exact.{made_read}
use Rattle.areas.specs.Flat.{areas}
use Rattle.areas.specs.Events as event
use Rattle.areas.specs.Scan.{at_first, brought, events}
use Rattle.areas.specs.Stores.{put_exponent, put_mark, Inside, scan, fill, scanned, cleared as all_cleared, lengths}
use Rattle.areas.specs.Places.{before}
use Rattle.areas.specs.Fronts.{fronts as all_fronts}
use Rattle.areas.proofs.Needs.{needs}
use Rattle.areas.proofs.Made.{rows_formed, made_formed}
use Rattle.areas.proofs.Scanned.{scan_leaves, scan_stays}
use Rattle.read_needs.specs.Needs.{first_short}
use Rattle.read_needs.proofs.ShortLaws.{all_long}
use Rattle.read_judge.specs.Scanned.{set_of}
use Rattle.read_outcome.specs.Outcome.{accepted, at_place, eleven, no_texts}
use Rattle.index.specs.Index.{Entries, entries}
use Rattle.index.specs.Made.{just_rows, placed_from, opened, put_starts, positions_of, entries_of, fronts}
use Rattle.index.proofs.Lines.{lies}
use Rattle.index.proofs.Begin.{lies_rows, body_is}
use Rattle.mapset.proofs.FirstLaws.{first_in}
use Rattle.index.proofs.AsRead.{positions_length}
use Rattle.index_fill.specs.Enter.{Roomy, entered_by, cleared, begun, Entered, entered}
use Rattle.index_text.specs.Making.{needed_and_lent, with_room, made_of, made, pairs, ReadAs}

-- ---- stores in front leave what is behind

put_front : (n B C : ℕ) (N : Kind → ℕ) (es : List event.Event) (os a b : List ℕ) → All (Inside n B C N) es → length a ≡ 3 * (n * B)
    → put_starts n B es os (a ++ b) ≡ put_starts n B es os a ++ b
put_front n B C N [] os a b i z = refl
put_front n B C N (event.epoch k e ∷ es) os a b i z = put_front n B C N es os a b i.1 z
put_front n B C N (event.marked k j ∷ es) os a b i z = put_front n B C N es os a b i.1 z
put_front n B C N (event.block k j d x ∷ es) [] a b i z = refl
put_front n B C N (event.block k j d x ∷ es) (p ∷ os) a b i z =
    let key : ℕ = first_of k (n * B) + before B j d in
    let h : key < 3 * (n * B) = first_in k (n * B) (before B j d) i.0.0 in
    ap (put_starts n B es os) (set-append_left a b key p (omega arith)) ∙ put_front n B C N es os (set a key p) b i.1 (length-set a key p ∙ z)

-- ---- the rows of a text that is made from m

module _ {m : MapSet} {rs : List (List ℕ)} (r : Rows m rs) (t : List ℕ) (x : just_rows (placed_from t 0) ≡ rs) (l : Entries) (w : Roomy m.header.times.maps (per_map m.header) l) where
  abbrev n : ℕ
  n = m.header.times.maps

  abbrev B : ℕ
  B = per_map m.header

  abbrev C : ℕ
  C = columns m.header.grid

  -- what is lent, among areas as long as their needs
  abbrev lent : Areas
  lent = six (areas m).tec (areas m).rms (areas m).height l.exponents (areas m).epochs l.marks

  room : Room m.header (areas m).marks lent
  room =
      let e = needs m (rows_formed r) in
      record { tec = omega (arith, e.tec); rms = omega (arith, e.rms); height = omega (arith, e.height); exponents = w.exponents; epochs = omega (arith, e.epochs); marks = w.marks }

  brought_is : brought C (at_first (begun t).0) 0 (just_rows (begun t).1) ≡ events C rs
  unfolding events
  brought_is =
      let b = body_is (placed_from t 0) plain (negsuc 0) in
      ap (λ (y : ℤ × List (List ℕ)). brought C (at_first y.0) 0 y.1) (sym b) ∙ ap (events C) x

  inside : All (Inside n B C (lengths lent)) (events C rs)
  inside = scan_stays r lent room

  pub steady : Entered n B C t l
  steady = record { room = w; lengths = lengths lent; inside = subst (λ es. All (Inside n B C (lengths lent)) es) (sym brought_is) inside }

  abbrev os : List ℕ
  os = opened C 0 (begun t).1

  positions_are : put_starts n B (events C rs) os (replicate (3 * (n * B)) 0 ++ drop (3 * (n * B)) l.positions) ≡ (fronts (entries_of m t) l).positions
  unfolding positions_of
  positions_are =
      put_front n B C (lengths lent) (events C rs) os (replicate (3 * (n * B)) 0) (drop (3 * (n * B)) l.positions) inside (length-replicate {A = ℕ} (3 * (n * B)) 0)
      ∙ (λ i. put_starts n B (events C (sym x i)) os (replicate (3 * (n * B)) 0) ++ drop (sym (positions_length r t) i) l.positions)

  exponents_are : scan (put_exponent n B) (events C rs) (fill (negsuc 0) (3 * (n * B)) l.exponents) ≡ front (areas m).exponents l.exponents
  unfolding scanned all_cleared all_fronts
  exponents_are = ap (λ (a : Areas). a.exponents) (scan_leaves r lent room)

  marks_are : scan put_mark (events C rs) (fill 0 n l.marks) ≡ front (areas m).marks l.marks
  unfolding scanned all_cleared all_fronts
  marks_are = ap (λ (a : Areas). a.marks) (scan_leaves r lent room)

  all_entered : entered n B C t l ≡ fronts (entries_of m t) l
  unfolding entered_by
  all_entered =
      ap (λ es. entered_by n B es os (cleared n B l)) brought_is ∙ (λ i. entries (positions_are i) (exponents_are i) (marks_are i))

-- ---- by what was read

module _ (t : List ℕ) (h : Header) (x : FullTexts) (a : ReadAs t h x) where
  abbrev m : MapSet
  m = set_of h x a.0

  pub limits : Limits h.times.maps h.grid
  limits = (made_formed (made_read t a.1)).header.limits

  pub few : h.times.maps * per_map h ≤ 2000000
  few = few_blocks h.times.maps h.grid limits

  over : Makes m t → (rs : List (List ℕ)) × (Rows m rs × (just_rows (placed_from t 0) ≡ rs))
  over (makes {rs} {ls} r z e) = (rs, (r, lies_rows (lies t 0 z e refl)))

  rows_of_it : (rs : List (List ℕ)) × (Rows m rs × (just_rows (placed_from t 0) ≡ rs))
  rows_of_it = over (made_read t a.1)

  pairs_are : (l : Entries) → pairs h.times.maps (per_map h) (length l.positions) (length l.exponents) (length l.marks) ≡ needed_and_lent (entries_of m t) l
  pairs_are l =
      let r = rows_of_it.1.0 in
      let e = needs m (rows_formed r) in
      λ i. (sym (positions_length r t) i, length l.positions) ∷ (sym e.exponents i, length l.exponents) ∷ (sym e.marks i, length l.marks) ∷ []

  module _ {n B C : ℕ} (p : n ≡ h.times.maps) (q : B ≡ per_map h) (o : C ≡ columns h.grid) (l : Entries) where
    pub few_by : n * B ≤ 2000000
    few_by = rw (p, q) few

    short_is : first_short 1 (pairs n B (length l.positions) (length l.exponents) (length l.marks)) ≡ first_short 1 (needed_and_lent (entries_of m t) l)
    short_is = (λ i. first_short 1 (pairs (p i) (q i) (length l.positions) (length l.exponents) (length l.marks))) ∙ ap (first_short 1) (pairs_are l)

    made_is : made t l ≡ with_room m t l (first_short 1 (pairs n B (length l.positions) (length l.exponents) (length l.marks)))
    unfolding made_of
    made_is = ap (λ r. made_of r t l) a.1 ∙ ap (with_room m t l) (sym short_is)

    -- 11
    pub short_by : (i k : ℕ) → first_short 1 (pairs n B (length l.positions) (length l.exponents) (length l.marks)) ≡ some (i, k) → record { told = eleven i k; texts = no_texts; entries = l } ≡ made t l
    unfolding with_room
    short_by i k e = sym (made_is ∙ ap (with_room m t l) e)

    module _ (e : first_short 1 (pairs n B (length l.positions) (length l.exponents) (length l.marks)) ≡ none) where
      roomy : Roomy h.times.maps (per_map h) l
      roomy = let z = all_long 1 _ e in let r : Roomy n B l = record { positions = z.0; exponents = z.1.0; marks = z.1.1.0 } in rw (p, q) at r

      pub steady_by : Entered n B C t l
      steady_by = let r = rows_of_it in rw (p, q, o) (steady r.1.0 t r.1.1 l roomy)

      pub made_by : (l' : Entries) → l' ≡ entered n B C t l → record { told = accepted h; texts = x; entries = l' } ≡ made t l
      unfolding with_room
      made_by l' f =
          let r = rows_of_it in
          let g : l' ≡ fronts (entries_of m t) l = f ∙ (λ i. entered (p i) (q i) (o i) t l) ∙ all_entered r.1.0 t r.1.1 l roomy in
          ap (λ z. record { told = accepted h; texts = x; entries = z }) g ∙ sym (made_is ∙ ap (with_room m t l) e)

pub made_refused : (t : List ℕ) (l : Entries) (w : Why) → read t ≡ refused w → record { told = at_place w.number w.line w.column; texts = no_texts; entries = l } ≡ made t l
unfolding made_of
made_refused t l w e = sym (ap (λ r. made_of r t l) e)
