-- A block found at the start of a text, line by line. `FoundLaws` has that it is found exactly where it stands.
use Rattle.std.proofs.Math.Option.{Option, none, some}
use Rattle.std.specs.Prelude.{List, [], ◌∷◌, ◌++◌, ℕ, ◌-◌, ◌%◌, ℤ, length, drop}
use Rattle.std.proofs.Math.Decide.{ℕ_discrete, dec_le}
use Rattle.kit.specs.Answer.{Answer, ok, refused, pick, same, ×_dec, all_dec, All}
use Rattle.kit.specs.Integer.{int?}
use Rattle.kit.specs.Range.{within?}
use Rattle.kit.specs.Truth.{dec_by}
use Rattle.forms.specs.Columns.{Blank}
use Rattle.mapset.specs.Grid.{rows, columns}
use Rattle.mapset.specs.declared.Header.{Header}
use Rattle.layout.specs.Text.{Clean, pad}
use Rattle.layout.specs.Records.{Vals}
use Rattle.layout.specs.Labels.{name, block, layout}
use Rattle.layout.specs.Layout.{node, Opens}
use Rattle.reading.specs.Fields.{fields, cells}
use Rattle.reading.specs.Maps.{height?, on_row}
use Rattle.read_lines.specs.Cuts.{Cut}

-- ---- tests
unfoldable pub clean? : (l : List ℕ) → Dec (Clean l)
clean? l = ×_dec (dec_le (length l) 80) (all_dec (within? 32 126) l)

unfoldable pub blank? : (l : List ℕ) → Dec (All Blank l)
blank? l = all_dec (λ b. ℕ_discrete b 32) l

unfoldable pub agrees? : (h : Header) (d : ℕ) (v : Vals (layout block)) → Dec (Opens h d v)
agrees? h d v =
    dec_by (λ o. record { latitude = o.0; first = o.1.0; last = o.1.1.0; step = o.1.1.1.0; height = o.1.1.1.1 }) (λ o. (o.latitude, (o.first, (o.last, (o.step, o.height)))))
    (×_dec (int? v.0 (node h.grid.latitudes (d % rows h.grid)))
    (×_dec (int? v.1.0 h.grid.longitudes.first)
    (×_dec (int? v.1.1.0 h.grid.longitudes.last)
    (×_dec (int? v.1.1.1.0 h.grid.longitudes.step) (height? h d v.1.1.1.1.0)))))

-- ---- values and lines
abbrev pub BlockFound : Type 0
BlockFound = Option (List ℤ × List ℕ)

-- values and bytes in front of what is found
abbrev pub in_front : List ℤ → List ℕ → BlockFound → BlockFound
in_front zs b none = none
in_front zs b (some x) = some (zs ++ x.0, b ++ x.1)

abbrev pub on_ok : {W A : Type 0} → Answer W A → (A → BlockFound) → BlockFound
on_ok (ok a) f = f a
on_ok (refused w) f = none

-- the next c values, up to the last one's line without its end
unfoldable pub values_at : (c : ℕ) → List Cut → BlockFound
values_at c [] = none
values_at c (l ∷ ls) =
    pick (clean? l.0)
    (pick (blank? l.0) (in_front [] (l.0 ++ l.1) (values_at c ls))
    (on_ok (cells 1 (on_row c) (pad l.0)) (λ zs. pick (dec_le c 16) (some (zs, l.0)) (in_front zs (l.0 ++ l.1) (values_at (c - 16) ls)))))
    none

-- the block after d others of its map
unfoldable pub block_at : (h : Header) (d : ℕ) → List Cut → BlockFound
block_at h d [] = none
block_at h d (l ∷ ls) =
    pick (clean? l.0)
    (pick (same (drop 60 (pad l.0)) (name block))
    (on_ok (fields block (pad l.0)) (λ v. pick (agrees? h d v) (in_front [] (l.0 ++ l.1) (values_at (columns h.grid) ls)) none)) none)
    none
