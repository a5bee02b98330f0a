-- The second scan over the rows of a text that is made from a map set.
use mathlib.Core.Path.{◌≡◌, sym, ◌∙◌}
use mathlib.Core.List.{List, [], ◌∷◌, ◌++◌}
use Prim.Native.Nat.{ℕ, ◌*◌, ◌≤◌}
use native.Mathlib.Omega.{arith}
use lib.ListN.{length, drop}
use lib.IntN.{ℤ, negsuc}
use Rattle.kit.proofs.AnswerLaws.{pick_yes, pick_no}
use Rattle.kit.specs.Answer.{same}
use Rattle.mapset.specs.declared.Kind.TheVariants.{Tec, Rms, Height}
use Rattle.mapset.specs.declared.Header.{Header}
use Rattle.mapset.specs.Grid.{columns}
use Rattle.mapset.specs.MapSet.{OtherMap, MapSet}
use Rattle.mapset.specs.Areas.{Areas, Room}
use Rattle.layout.specs.Labels.{name, aux_end}
use Rattle.layout.specs.Layout.{maps, per_map, Writes, Slots, Lines, Mode, plain, Heads, h_description, h_comment, h_exponent, h_field, h_system, h_aux, h_skip, h_back, h_end, Rows, rows_of, begins}
use Rattle.reading.proofs.RecordLaws.{known_head, known_heads, known_maps, rec_label, rec_name}
use Rattle.areas.specs.Flat.{slots, reads, values_of, wanted, areas_of, areas}
use Rattle.areas.specs.Formed.{Rising, Formed}
use Rattle.areas.specs.Events.{Event, told}
use Rattle.areas.specs.Stores.{put_values, put_exponent, put_epoch, put_mark, cleared, scanned, lengths, Leaves, Stays}
use Rattle.areas.specs.Scan.{at_first, brought, body, events}
use Rattle.areas.proofs.KindLaws.{kind_values}
use Rattle.areas.proofs.Needs.{needs}
use Rattle.areas.proofs.Made.{rows_formed}
use Rattle.areas.proofs.Sorted.{scan_append, only}
use Rattle.areas.proofs.InAreas.{Enough, inside}
use Rattle.areas.proofs.Stored.{stored}
use Rattle.areas.proofs.ScanRows.{at_maps, brings_told, exponent_read, known_version}

-- for a loop: the stores from the start are those so far and then those from here
pub scanned_append : (n B C : ℕ) (es fs : List Event) (l : Areas) → scanned n B C (es ++ fs) l ≡ scanned n B C fs (scanned n B C es l)
unfolding scanned
scanned_append n B C es fs l =
    λ i. record {
      tec = scan_append (put_values B C Tec) es fs l.tec i;
      rms = scan_append (put_values B C Rms) es fs l.rms i;
      height = scan_append (put_values B C Height) es fs l.height i;
      exponents = scan_append (put_exponent n B) es fs l.exponents i;
      epochs = scan_append put_epoch es fs l.epochs i;
      marks = scan_append put_mark es fs l.marks i;
    }

-- a kind that has a map needs all its values
some_need : (n B C : ℕ) (xs : List OtherMap) (N : ℕ) → Rising n B C 0 xs → length (wanted xs (values_of (reads B C (slots n xs)))) ≤ N → 1 ≤ length xs → n * B * C ≤ N
some_need n B C [] N r h l = absurd (omega arith)
some_need n B C (x ∷ xs) N r h l = omega (arith, kind_values n B C 0 (x ∷ xs) r)

module _ {m : MapSet} (f : Formed m) where
  enough : (l : Areas) → Room m.header (areas m).marks l → Enough m.header (lengths l) m.maps.rms m.maps.height
  unfolding areas_of
  enough l r =
      let e = needs m f in (
        some_need _ _ _ m.maps.rms (length l.rms) f.maps.rms (rw e.rms r.rms),
        some_need _ _ _ m.maps.height (length l.height) f.maps.height (rw e.height r.height),
      )

  module _ {e : ℤ} {rs : List (List ℕ)} (hw : Writes m.header (begins e) (maps m.maps) rs) where
    told_stays : Stays m (told hw)
    told_stays l r = inside m.header (lengths l) hw r.tec (enough l r)

    told_leaves : Leaves m (told hw)
    told_leaves l r =
        let h : Header = m.header in
        let x = needs m f in
        (λ i. scanned h.times.maps (per_map h) (columns h.grid) (told hw) (cleared h.times.maps (per_map h) (sym x.rms i) (sym x.height i) l))
        ∙ stored h.times.maps (per_map h) (columns h.grid) (lengths l) m.maps f.maps (told hw) (told_stays l r) (λ A g k q. only g k q hw) l r.tec r.epochs

    -- the rows behind END OF HEADER
    told_brought : told hw ≡ brought (columns m.header.grid) (at_first e) 0 rs
    told_brought = sym (brings_told hw (at_maps Tec 0 0))

    pub maps_stay : Stays m (brought (columns m.header.grid) (at_first e) 0 rs)
    maps_stay = rw told_brought at told_stays

    pub maps_leave : Leaves m (brought (columns m.header.grid) (at_first e) 0 rs)
    maps_leave = rw told_brought at told_leaves

-- ---- where the maps begin

abbrev pub Begins : MapSet → ℤ × List (List ℕ) → Type 0
Begins m b = Writes m.header (begins b.0) (maps m.maps) b.1

heads_begin : {m : MapSet} {a : Mode} {e : ℤ} {left : Slots} {ds : Lines} {rs : List (List ℕ)} → Heads m a e left ds rs → Begins m (body a e rs)
unfolding body
heads_begin (h_description c hw) = rw (rec_label c known_heads.0) (heads_begin hw)
heads_begin (h_comment c hw) = rw (rec_label c known_maps.0) (heads_begin hw)
heads_begin (h_exponent {e' = e} c u hw) = rw (rec_label c known_maps.1, exponent_read e c) (heads_begin hw)
heads_begin (h_field i v l e c u a hw) = rw (rec_label c (known_head i l)) (heads_begin hw)
heads_begin (h_system j a b l e c u hw) = rw (rec_label c known_heads.1) (heads_begin hw)
heads_begin (h_aux c hw) = rw (rec_label c known_heads.2) (heads_begin hw)
heads_begin (h_skip {r = r} n hw) = rw (pick_no (same (drop 60 r) (name aux_end)) _ _ n) (heads_begin hw)
heads_begin (h_back {r = r} c hw) = rw (pick_yes (same (drop 60 r) (name aux_end)) _ _ (rec_name c)) (heads_begin hw)
heads_begin (h_end c a f d l hw) = rw (rec_label c known_heads.3) hw

pub rows_begin : {m : MapSet} {rs : List (List ℕ)} → Rows m rs → Begins m (body plain (negsuc 0) rs)
unfolding body
rows_begin (rows_of v o c hw) = rw (rec_label c known_version) (heads_begin hw)

-- ---- the theorems: over the rows of a text that is made from m, the second scan leaves the areas of m

module _ {m : MapSet} {rs : List (List ℕ)} (r : Rows m rs) where
  pub scan_leaves : Leaves m (events (columns m.header.grid) rs)
  unfolding events
  scan_leaves = maps_leave (rows_formed r) (rows_begin r)

  pub scan_stays : Stays m (events (columns m.header.grid) rs)
  unfolding events
  scan_stays = maps_stay (rows_formed r) (rows_begin r)
