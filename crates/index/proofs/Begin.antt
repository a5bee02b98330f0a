-- The rows behind END OF HEADER, each with its line's start, and the exponent in force there.
use mathlib.Core.Path.{◌≡◌, refl, ap}
use mathlib.Core.Option.{Option, none, some}
use mathlib.Core.List.{List, [], ◌∷◌}
use Prim.Native.Nat.{ℕ}
use lib.IntN.{ℤ, negsuc}
use lib.ListN.{drop}
use Rattle.kit.specs.Answer.{same, pick}
use Rattle.kit.proofs.AnswerLaws.{pick_yes, pick_no}
use Rattle.mapset.specs.MapSet.{MapSet}
use Rattle.layout.specs.Labels.{name, Label, version, description, comment, system, exponent, aux_start, aux_end, header_end, epoch, block, file_end, head, start, end}
use Rattle.layout.specs.Layout.{Exponent, Slots, Lines, Mode, plain, aux, Heads, h_description, h_comment, h_exponent, h_field, h_system, h_aux, h_skip, h_back, h_end, Rows, rows_of}
use Rattle.reading.specs.Fields.{label}
use Rattle.reading.proofs.RecordLaws.{known_head, known_heads, known_maps, rec_label, rec_name}
use Rattle.areas.specs.Scan.{by_label, exponent_in, body}
use Rattle.areas.proofs.ScanRows.{exponent_read, known_version}
use Rattle.index.specs.Made.{Placed, just_rows, maps_of}
use Rattle.index.proofs.Lines.{Lies, lies_end, lies_row}

-- the exponent at END OF HEADER is one from -3 to 0
heads_exponent : {m : MapSet} {a : Mode} {e : ℤ} {left : Slots} {ds : Lines} {rs : List (List ℕ)} → Heads m a e left ds rs → Exponent e → Exponent (body a e rs).0
unfolding body
heads_exponent (h_description c hw) x = rw (rec_label c known_heads.0) (heads_exponent hw x)
heads_exponent (h_comment c hw) x = rw (rec_label c known_maps.0) (heads_exponent hw x)
heads_exponent (h_exponent {e' = e} c u hw) x = rw (rec_label c known_maps.1, exponent_read e c) (heads_exponent hw u)
heads_exponent (h_field i v l e c u a hw) x = rw (rec_label c (known_head i l)) (heads_exponent hw x)
heads_exponent (h_system j a b l e c u hw) x = rw (rec_label c known_heads.1) (heads_exponent hw x)
heads_exponent (h_aux c hw) x = rw (rec_label c known_heads.2) (heads_exponent hw x)
heads_exponent (h_skip {r = r} n hw) x = rw (pick_no (same (drop 60 r) (name aux_end)) _ _ n) (heads_exponent hw x)
heads_exponent (h_back {r = r} c hw) x = rw (pick_yes (same (drop 60 r) (name aux_end)) _ _ (rec_name c)) (heads_exponent hw x)
heads_exponent (h_end c a f d l hw) x = rw (rec_label c known_heads.3) x

pub rows_exponent : {m : MapSet} {rs : List (List ℕ)} → Rows m rs → Exponent (body plain (negsuc 0) rs).0
unfolding body
rows_exponent (rows_of v d c hw) = rw (rec_label c known_version) (heads_exponent hw (record { from = record { le = tt }; to = record { le = tt } }))

-- ---- rows with their starts, and without

by_both : {X Y : Type 0} (P : X → Y → Type 0) {a b c d : X} {a' b' c' d' : Y} → P a a' → P b b' → P c c' → P d d' → (o : Option Label) → P (by_label a b c d o) (by_label a' b' c' d' o)
by_both P p q r s (some header_end) = p
by_both P p q r s (some exponent) = q
by_both P p q r s (some aux_start) = r
by_both P p q r s (some version) = s
by_both P p q r s (some description) = s
by_both P p q r s (some comment) = s
by_both P p q r s (some system) = s
by_both P p q r s (some (head i)) = s
by_both P p q r s (some aux_end) = s
by_both P p q r s (some (start k)) = s
by_both P p q r s (some (end k)) = s
by_both P p q r s (some epoch) = s
by_both P p q r s (some block) = s
by_both P p q r s (some file_end) = s
by_both P p q r s none = s

pub lies_rows : {t : List ℕ} {ps : Placed} {rs : List (List ℕ)} → Lies t ps rs → just_rows ps ≡ rs
lies_rows lies_end = refl
lies_rows (lies_row {r = r} f x) = ap (λ rs. r ∷ rs) (lies_rows x)

-- the same over rows alone
pub body_is : (ps : Placed) (a : Mode) (e : ℤ) → body a e (just_rows ps) ≡ ((maps_of a e ps).0, just_rows (maps_of a e ps).1)
unfolding maps_of body pick
body_is [] plain e = refl
body_is [] aux e = refl
body_is (p ∷ ps) plain e =
    by_both (λ (x : ℤ × List (List ℕ)) (y : ℤ × Placed). x ≡ (y.0, just_rows y.1))
    {a = (e, just_rows ps)} {b = body plain (exponent_in p.1) (just_rows ps)} {c = body aux e (just_rows ps)} {d = body plain e (just_rows ps)}
    {a' = (e, ps)} {b' = maps_of plain (exponent_in p.1) ps} {c' = maps_of aux e ps} {d' = maps_of plain e ps}
    refl (body_is ps plain (exponent_in p.1)) (body_is ps aux e) (body_is ps plain e) (label p.1)
body_is (p ∷ ps) aux e = by (same (drop 60 p.1) (name aux_end)) (maps_of plain e ps) (maps_of aux e ps) (body_is ps plain e) (body_is ps aux e)
  where
    by : {P : Type 0} (d : Dec P) {x x' : ℤ × List (List ℕ)} (y y' : ℤ × Placed) → x ≡ (y.0, just_rows y.1) → x' ≡ (y'.0, just_rows y'.1)
        → pick d x x' ≡ ((pick d y y').0, just_rows (pick d y y').1)
    by (yes p) y y' k l = k
    by (no n) y y' k l = l

pub lies_maps : {t : List ℕ} {ps : Placed} {rs : List (List ℕ)} → Lies t ps rs → (a : Mode) (e : ℤ) → Lies t (maps_of a e ps).1 (body a e rs).1
unfolding maps_of body pick
lies_maps lies_end plain e = lies_end
lies_maps lies_end aux e = lies_end
lies_maps {t} (lies_row {r = r} {ps} {rs} f x) plain e =
    by_both (λ (q : ℤ × Placed) (y : ℤ × List (List ℕ)). Lies t q.1 y.1) {a = (e, ps)} {b = maps_of plain (exponent_in r) ps} {c = maps_of aux e ps} {d = maps_of plain e ps}
    {a' = (e, rs)} {b' = body plain (exponent_in r) rs} {c' = body aux e rs} {d' = body plain e rs}
    x (lies_maps x plain (exponent_in r)) (lies_maps x aux e) (lies_maps x plain e) (label r)
lies_maps {t} (lies_row {r = r} {ps} {rs} f x) aux e = by (same (drop 60 r) (name aux_end)) (maps_of plain e ps) (maps_of aux e ps) (body plain e rs) (body aux e rs) (lies_maps x plain e) (lies_maps x aux e)
  where
    by : {P : Type 0} (d : Dec P) (q q' : ℤ × Placed) (y y' : ℤ × List (List ℕ)) → Lies t q.1 y.1 → Lies t q'.1 y'.1 → Lies t (pick d q q').1 (pick d y y').1
    by (yes p) q q' y y' k l = k
    by (no n) q q' y y' k l = l
