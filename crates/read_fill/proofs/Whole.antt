-- The scan over an accepted text: it stays inside its areas, and it leaves them as `areas` says.
use mathlib.Core.Path.{◌≡◌, refl, sym, ap, subst, ◌∙◌}
use mathlib.Core.List.{List, ◌∷◌, ◌++◌}
use Prim.Native.Nat.{ℕ, zero, suc, ◌+◌, ◌-◌, ◌*◌, ◌≤◌}
use native.Mathlib.Omega.{arith}
use lib.ListN.{length, length-append}
use lib.IntN.{ℤ, pos, negsuc}
use Rattle.kit.specs.Answer.{All}
use Rattle.kit.proofs.AnswerLaws.{yields}
use Rattle.mapset.specs.declared.Kind.TheVariants.{Tec, Rms, Height}
use Rattle.mapset.specs.declared.Header.{Header}
use Rattle.mapset.specs.Grid.{columns}
use Rattle.mapset.specs.MapSet.{MapSet}
use Rattle.mapset.specs.Areas.{Areas, Room, six}
use Rattle.mapset.specs.declared.Kind.{Kind}
use mathlib.Core.Option.{some}
use Rattle.layout.specs.Labels.{Label}
use Rattle.layout.specs.Records.{Cells, ValueRows, v_last, v_full}
use Rattle.layout.specs.Layout.{Force, Left, maps, per_map, Writes, w_end, w_comment, w_exponent, w_tec, w_epoch, w_other, w_again, w_block, w_close, w_file, begins}
use Rattle.reading.specs.Feed.{Feed, split, feed}
use Rattle.reading.specs.Fields.{label}
use Rattle.reading.specs.Maps.{on_row}
use Rattle.reading.proofs.LineLaws.{Carries, c_over, c_row, sized}
use Rattle.reading.proofs.MapLaws.{written, wrote_rows}
use Rattle.reading.proofs.RecordLaws.{known_maps, rec_label, cells_of}
use Rattle.reading.specs.declared.Place.TheVariants.{Between}
use Rattle.areas.specs.Flat.{areas}
use Rattle.areas.specs.Stores.{Inside, lengths, scanned, fill, cleared}
use Rattle.areas.specs.Fronts.{fronts}
use Rattle.areas.specs.Scan.{Now, at_first, brought}
use Rattle.areas.proofs.Needs.{needs}
use Rattle.areas.proofs.Scanned.{maps_leave, maps_stay}
use Rattle.areas.proofs.ListLaws.{fill_length}
use Rattle.read_fill.specs.Rows.{rows_of, due_behind, Valued}
use Rattle.read_fill.specs.Filled.{Accepted, Enough}
use Rattle.read_fill.proofs.FeedLaws.{rows_numbered}
use Rattle.read_fill.proofs.Going.{Sized, as_long}

-- ---- the rows of an accepted text

carried : {f : Feed} {rs : List (List ℕ)} → Carries f rs → rows_of f ≡ rs
unfolding rows_of
carried c_over = refl
carried (c_row {r = r} c) = ap (λ rs. r ∷ rs) (carried c)

valued_row : (C c : ℕ) {zs : List ℤ} {r : List ℕ} (rs : List (List ℕ)) → 1 ≤ c → on_row c ≡ length zs → Cells zs r → Valued C (c - 16) rs → Valued C c (r ∷ rs)
unfolding Valued
valued_row C zero rs l e x v = absurd (omega arith)
valued_row C (suc c) rs l e x v = (rw (e, cells_of x 1) tt, v)

valued_block : (C : ℕ) {zs : List ℤ} {vs : List (List ℕ)} (rs : List (List ℕ)) → ValueRows zs vs → Valued C 0 rs → Valued C (length zs) (vs ++ rs)
valued_block C {zs} rs (v_last a b z x) v =
    let n : 0 ≡ length zs - 16 = omega arith in
    valued_row C (length zs) rs a (omega arith) x (subst (λ j. Valued C j rs) n v)
valued_block C ws (v_full {zs} {more} {rs = vs} a z x y) v =
    let e : length (zs ++ more) ≡ 16 + length more = length-append zs more ∙ omega arith in
    let n : length more ≡ length (zs ++ more) - 16 = omega arith in
    valued_row C (length (zs ++ more)) (vs ++ ws) (omega arith) (omega arith) x (subst (λ j. Valued C j (vs ++ ws)) n (valued_block C ws y v))

valued_behind : (C : ℕ) {l : Label} (r : List ℕ) (rs : List (List ℕ)) → label r ≡ some l → Valued C (due_behind C (some l)) rs → Valued C 0 (r ∷ rs)
unfolding Valued
valued_behind C r rs e v = subst (λ o. Valued C (due_behind C o) rs) (sym e) v

valued : {h : Header} {p : Force} {w : Left} {rs : List (List ℕ)} → Writes h p w rs → Valued (columns h.grid) 0 rs
valued w_end = unfold Valued in tt
valued (w_comment {r = r} {rs} l c hw) = valued_behind _ r rs (rec_label c known_maps.0) (valued hw)
valued (w_exponent {r = r} {rs} l c u hw) = valued_behind _ r rs (rec_label c known_maps.1) (valued hw)
valued (w_tec {r = r} {rs} c u hw) = valued_behind _ r rs (rec_label c (known_maps.5 Tec)) (valued hw)
valued (w_epoch d {r} {rs} c t u z hw) = valued_behind _ r rs (rec_label c known_maps.2) (valued hw)
valued (w_other Rms {r = r} {rs} o c u v z hw) = valued_behind _ r rs (rec_label c (known_maps.5 Rms)) (valued hw)
valued (w_other Height {r = r} {rs} o c u v z hw) = valued_behind _ r rs (rec_label c (known_maps.5 Height)) (valued hw)
valued (w_again d {r} {rs} c t hw) = valued_behind _ r rs (rec_label c known_maps.2) (valued hw)
valued (w_close {k = k} {r = r} {rs} c hw) = valued_behind _ r rs (rec_label c (known_maps.6 k)) (valued hw)
valued (w_file {r = r} {rs} c u hw) = valued_behind _ r rs (rec_label c known_maps.4) (valued hw)
valued {h} (w_block {zs = zs} v {r} {vs} {rs} c o z y hw) =
    valued_behind _ r (vs ++ rs) (rec_label c known_maps.3) (subst (λ j. Valued (columns h.grid) j (vs ++ rs)) z (valued_block (columns h.grid) rs y (valued hw)))
valued {h = h} (w_other {p = p} Tec {ms = ms} {r = r} {rs = rs} o c u v z hw) = elim o [ ]

-- the same with other names for the sizes
renamed : (N : Kind → ℕ) (s : Now) (n n' B B' C C' : ℕ) (rs rs' : List (List ℕ)) → n ≡ n' → B ≡ B' → C ≡ C' → rs ≡ rs' → All (Inside n B C N) (brought C s 0 rs) → All (Inside n' B' C' N) (brought C' s 0 rs')
renamed N s n n' B B' C C' rs rs' p q o u h = rw (p, q, o, u) at h

module _ (n B C r t : ℕ) (e : ℤ) (text : List ℕ) (l : Areas) (en : Enough n B C r t l) (m : MapSet) (a : Accepted n B C r t e text m) where
  -- the rows, and that they are written
  made : (rs : List (List ℕ)) × Carries (feed a.line (split text)) rs × Writes m.header (begins e) (maps m.maps) rs
  made = wrote_rows (yields _ (written m.header (feed a.line (split text)) (sized a.line (split text)) Between (begins e) 0) a.read)

  abbrev rows : List (List ℕ)
  rows = rows_of (feed 1 (split text))

  rows_are : made.0 ≡ rows
  rows_are = sym (rows_numbered 1 a.line (split text) ∙ carried made.1)

  room : Room m.header (areas m).marks l
  room =
      let x = needs m a.formed in
      record {
        tec = rw (a.maps, a.blocks, a.columns) en.tec;
        rms = omega (arith, x.rms, a.rms, en.rms);
        height = omega (arith, x.height, a.height, en.height);
        exponents = rw (a.maps, a.blocks) en.exponents;
        epochs = rw a.maps en.epochs;
        marks = rw a.maps en.marks;
      }

  ready : All (Inside n B C (lengths l)) (brought C (at_first e) 0 rows)
  ready =
      renamed (lengths l) (at_first e) m.header.times.maps n (per_map m.header) B (columns m.header.grid) C made.0 rows a.maps a.blocks a.columns rows_are
      (maps_stay a.formed made.2 l room)

  -- clearing does not change a length
  pub ready_cleared : {r' h' x' : List ℤ} {m' : List ℕ}
      → r' ≡ fill (pos 9999) r l.rms → h' ≡ fill (pos 9999) t l.height → x' ≡ fill (negsuc 0) (3 * (n * B)) l.exponents → m' ≡ fill 0 n l.marks
      → All (Inside n B C (lengths (six l.tec r' h' x' l.epochs m'))) (brought C (at_first e) 0 rows)
  ready_cleared {r'} {h'} {x'} {m'} p q o u =
      let z : Sized (six l.tec r' h' x' l.epochs m') l = record {
        tec = refl;
        rms = ap length p ∙ fill_length (pos 9999) r l.rms en.rms;
        height = ap length q ∙ fill_length (pos 9999) t l.height en.height;
        exponents = ap length o ∙ fill_length (negsuc 0) (3 * (n * B)) l.exponents en.exponents;
        epochs = refl;
        marks = ap length u ∙ fill_length 0 n l.marks en.marks;
      } in
      as_long n B C (brought C (at_first e) 0 rows) z ready

  pub values_there : Valued C 0 rows
  values_there = subst (λ j. Valued j 0 rows) a.columns (subst (λ rs. Valued (columns m.header.grid) 0 rs) rows_are (valued made.2))

  pub all_filled : {r' h' x' : List ℤ} {m' : List ℕ} {l' : Areas}
      → r' ≡ fill (pos 9999) r l.rms → h' ≡ fill (pos 9999) t l.height → x' ≡ fill (negsuc 0) (3 * (n * B)) l.exponents → m' ≡ fill 0 n l.marks
      → l' ≡ scanned n B C (brought C (at_first e) 0 rows) (six l.tec r' h' x' l.epochs m') → l' ≡ fronts (areas m) l
  unfolding cleared
  all_filled {r'} {h'} {x'} {m'} p q o u w =
      let x = needs m a.formed in
      let f : six l.tec r' h' x' l.epochs m' ≡ cleared n B r t l = λ i. six l.tec (p i) (q i) (o i) l.epochs (u i) in
      w ∙ ap (scanned n B C (brought C (at_first e) 0 rows)) f
      ∙ (λ i. scanned (sym a.maps i) (sym a.blocks i) (sym a.columns i) (brought (sym a.columns i) (at_first e) 0 (sym rows_are i))
      (cleared (sym a.maps i) (sym a.blocks i) ((sym a.rms ∙ x.rms) i) ((sym a.height ∙ x.height) i) l))
      ∙ maps_leave a.formed made.2 l room
