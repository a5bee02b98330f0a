-- What the second scan is brought row by row are the events that the rules tell.
use mathlib.Core.Path.{◌≡◌, refl, sym, ap, ◌∙◌}
use mathlib.Core.Bool.{Bool, true, false}
use mathlib.Core.Option.{some}
use mathlib.Core.List.{List, [], ◌∷◌, ◌++◌, append-nil}
use Prim.Native.Nat.{ℕ, zero, suc, ◌+◌, ◌-◌, ◌≤◌}
use native.Mathlib.Omega.{arith}
use native.Mathlib.Decide.{ℕ_discrete}
use lib.ListN.{length, length-append}
use lib.IntN.{ℤ, pos}
use Rattle.kit.specs.Answer.{pick, same, sames}
use Rattle.calendar.proofs.FieldLaws.{dated_at}
use Rattle.mapset.specs.declared.Kind.{Kind}
use Rattle.mapset.specs.declared.Kind.TheVariants.{Tec, Rms, Height}
use Rattle.mapset.specs.declared.Header.{Header}
use Rattle.mapset.specs.Grid.{columns}
use Rattle.mapset.specs.MapSet.{Block, TecMap, Maps}
use Rattle.layout.specs.Records.{Cells, ValueRows, v_last, v_full}
use Rattle.layout.specs.Labels.{name, version, exponent, epoch, block, start, Rec}
use Rattle.layout.specs.Layout.{Force, under, Other, Left, nothing, maps, early, blocks, Date, DateOf, per_map, Writes, w_end, w_comment, w_exponent, w_tec, w_epoch, w_other, w_again, w_block, w_close, w_file}
use Rattle.reading.specs.Fields.{lookup, label}
use Rattle.reading.specs.Maps.{on_row}
use Rattle.reading.proofs.RecordLaws.{Known, known_maps, rec_label, rec_fields, cells_of}
use Rattle.areas.specs.Events as event
use Rattle.areas.specs.Events.{told}
use Rattle.areas.specs.Scan.{Now, now, or_else, exponent_in, number_in, second_of, epoch_in, values_ahead, brought}

-- ---- the values of a block

row_values : (zs : List ℤ) (c : ℕ) (r : List ℕ) (rs : List (List ℕ)) → 1 ≤ c → on_row c ≡ length zs → Cells zs r → values_ahead c (r ∷ rs) ≡ zs ++ values_ahead (c - 16) rs
unfolding or_else
row_values zs zero r rs l e x = absurd (omega arith)
row_values zs (suc c) r rs l e x = rw (e, cells_of x 1)

no_values : (rs : List (List ℕ)) → values_ahead 0 rs ≡ []
no_values [] = refl
no_values (r ∷ rs) = refl

block_values : {zs : List ℤ} {vs : List (List ℕ)} (rs : List (List ℕ)) → ValueRows zs vs → values_ahead (length zs) (vs ++ rs) ≡ zs
block_values {zs} rs (v_last {r = r} a b z x) =
    let n : length zs - 16 ≡ 0 = omega arith in
    row_values zs (length zs) r rs a (omega arith) x ∙ ap (λ c. zs ++ values_ahead c rs) n ∙ ap (λ l. zs ++ l) (no_values rs) ∙ append-nil zs
block_values rs (v_full {zs} {more} {r} {rs = vs} a z x v) =
    let e : length (zs ++ more) ≡ 16 + length more = length-append zs more ∙ omega arith in
    let n : length (zs ++ more) - 16 ≡ length more = omega arith in
    row_values zs (length (zs ++ more)) r (vs ++ rs) (omega arith) (omega arith) x ∙ ap (λ c. zs ++ values_ahead c (vs ++ rs)) n ∙ ap (λ l. zs ++ l) (block_values rs v)

row_past : (C : ℕ) (s : Now) (c : ℕ) (r : List ℕ) (rs : List (List ℕ)) → 1 ≤ c → brought C s c (r ∷ rs) ≡ brought C s (c - 16) rs
unfolding brought
row_past C s zero r rs l = absurd (omega arith)
row_past C s (suc c) r rs l = refl

-- a block at once
block_past : (C : ℕ) (s : Now) {zs : List ℤ} {vs : List (List ℕ)} (rs : List (List ℕ)) → ValueRows zs vs → brought C s (length zs) (vs ++ rs) ≡ brought C s 0 rs
block_past C s {zs} rs (v_last {r = r} a b z x) = let n : length zs - 16 ≡ 0 = omega arith in row_past C s (length zs) r rs a ∙ ap (λ c. brought C s c rs) n
block_past C s rs (v_full {zs} {more} {r} {rs = vs} a z x v) =
    let e : length (zs ++ more) ≡ 16 + length more = length-append zs more ∙ omega arith in
    let n : length (zs ++ more) - 16 ≡ length more = omega arith in
    row_past C s (length (zs ++ more)) r (vs ++ rs) (omega arith) ∙ ap (λ c. brought C s c (vs ++ rs)) n ∙ block_past C s rs v

-- a block's opening r and the rows vs of its values zs
block_turn : (C : ℕ) (s : Now) (r : List ℕ) {zs : List ℤ} {vs : List (List ℕ)} (rs : List (List ℕ)) → label r ≡ some block → length zs ≡ C → ValueRows zs vs
    → brought C s 0 (r ∷ (vs ++ rs))
    ≡ event.block s.kind s.number s.done (record { exponent = s.exponent; values = zs }) ∷ brought C (now s.kind s.number (suc s.done) s.exponent s.tecs) 0 rs
unfolding brought
block_turn C s r {zs} {vs} rs e z y =
    let a : values_ahead C (vs ++ rs) ≡ zs = ap (λ j. values_ahead j (vs ++ rs)) (sym z) ∙ block_values rs y in
    let t : Now = now s.kind s.number (suc s.done) s.exponent s.tecs in
    let q : brought C t C (vs ++ rs) ≡ brought C t 0 rs = ap (λ j. brought C t j (vs ++ rs)) (sym z) ∙ block_past C t rs y in
    rw (e, a) (ap (λ es. event.block s.kind s.number s.done (record { exponent = s.exponent; values = zs }) ∷ es) q)

-- ---- where the scan stands, by what is left

abbrev Fresh : Bool → Kind → Type 0
Fresh true k = Other k
Fresh false k = Unit {0}

-- the state that fits p in force and w left; between maps, kind, number and blocks do not matter
pub data Stands (h : Header) (p : Force) : Left → Now → Type 0 where
  at_end : {s : Now} → Stands h p nothing s
  at_maps : {ms : Maps} (k : Kind) (i b : ℕ) → Stands h p (maps ms) (now k i b p.exponent (length p.epochs))
  at_early : {m : TecMap} {ms : Maps} → Stands h p (early m ms) (now Tec (suc (length p.epochs)) 0 p.exponent (length p.epochs))
  at_blocks : {e : Bool} {k : Kind} {i : ℕ} {bs : List Block} {ms : Maps} → Fresh e k → length bs ≤ per_map h
      → Stands h p (blocks e k i bs ms) (now k i (per_map h - length bs) p.exponent (length p.epochs))

stands_under : {h : Header} {p : Force} {w : Left} {s : Now} (e : ℤ) → Stands h p w s → Stands h (under e p) w (now s.kind s.number s.done e s.tecs)
stands_under e at_end = at_end
stands_under e (at_maps k i b) = at_maps k i b
stands_under e at_early = at_early
stands_under e (at_blocks f l) = at_blocks f l

-- the second of an epoch record
epoch_read : (d : Date) {r : List ℕ} (t : ℕ) → Rec epoch d r → DateOf d t → epoch_in r ≡ t
unfolding or_else second_of
epoch_read d t c u = rw (rec_fields c) (ap second_of (dated_at d.0 d.1.0 d.1.1.0 d.1.1.1.0 d.1.1.1.1.0 d.1.1.1.1.1.0 t u))

-- the number of a START record
number_read : (k : Kind) (i : ℕ) {r : List ℕ} → Rec (start k) (pos i, tt) r → number_in k r ≡ i
unfolding or_else
number_read k i c = rw (rec_fields c)

pub exponent_read : (e : ℤ) {r : List ℕ} → Rec exponent (e, tt) r → exponent_in r ≡ e
unfolding or_else
exponent_read e c = rw (exponent_in, rec_fields c)

pub brings_told : {h : Header} {p : Force} {w : Left} {rs : List (List ℕ)} {s : Now} (hw : Writes h p w rs) → Stands h p w s → brought (columns h.grid) s 0 rs ≡ told hw
unfolding brought told
brings_told w_end at_end = refl
brings_told (w_comment l c hw) x = rw (rec_label c known_maps.0) (brings_told hw x)
brings_told (w_exponent {e} l c u hw) x = rw (rec_label c known_maps.1, exponent_read e c) (brings_told hw (stands_under e x))
brings_told (w_tec c u hw) (at_maps k i b) = rw (rec_label c (known_maps.5 Tec)) (brings_told hw at_early)
brings_told {h} {p} (w_epoch {m = m} d {rs = rs} c t u z hw) at_early =
    let n : ℕ = length p.epochs in
    let l : length m.blocks ≤ per_map h = rw z (omega arith) in
    let a : 0 ≡ per_map h - length m.blocks = rw z (omega arith) in
    let b : suc n ≡ length (p.epochs ++ (m.epoch ∷ [])) = omega (arith, length-append p.epochs (m.epoch ∷ [])) in
    rw (rec_label c known_maps.2, epoch_read d m.epoch c t)
    (ap (λ es. event.epoch (suc n) m.epoch ∷ es) ((λ i. brought (columns h.grid) (now Tec (suc n) (a i) p.exponent (b i)) 0 rs) ∙ brings_told hw (at_blocks tt l)))
brings_told {h} {p} (w_other Rms {x = x} {rs = rs} o c u v z hw) (at_maps k i b) =
    let l : length x.blocks ≤ per_map h = rw z (omega arith) in
    let a : 0 ≡ per_map h - length x.blocks = rw z (omega arith) in
    rw (rec_label c (known_maps.5 Rms), number_read Rms x.of c)
    (ap (λ es. event.marked Rms x.of ∷ es) ((λ i. brought (columns h.grid) (now Rms x.of (a i) p.exponent (length p.epochs)) 0 rs) ∙ brings_told hw (at_blocks tt l)))
brings_told {h} {p} (w_other Height {x = x} {rs = rs} o c u v z hw) (at_maps k i b) =
    let l : length x.blocks ≤ per_map h = rw z (omega arith) in
    let a : 0 ≡ per_map h - length x.blocks = rw z (omega arith) in
    rw (rec_label c (known_maps.5 Height), number_read Height x.of c)
    (ap (λ es. event.marked Height x.of ∷ es) ((λ i. brought (columns h.grid) (now Height x.of (a i) p.exponent (length p.epochs)) 0 rs) ∙ brings_told hw (at_blocks tt l)))
brings_told (w_again {k = Tec} d c t hw) (at_blocks f l) = absurd f
brings_told (w_again {k = Rms} d c t hw) (at_blocks f l) = rw (rec_label c known_maps.2) (brings_told hw (at_blocks tt l))
brings_told (w_again {k = Height} d c t hw) (at_blocks f l) = rw (rec_label c known_maps.2) (brings_told hw (at_blocks tt l))
brings_told {h} {p} (w_block {k = k} {i} {zs} {bs} v {r} {vs} {rs} c o z y hw) (at_blocks f l) =
    let C : ℕ = columns h.grid in
    let n : ℕ = length p.epochs in
    let b : suc (per_map h - suc (length bs)) ≡ per_map h - length bs = omega arith in
    block_turn C (now k i (per_map h - suc (length bs)) p.exponent n) r rs (rec_label c known_maps.3) z y
    ∙ ap (λ es. event.block k i (per_map h - suc (length bs)) (record { exponent = p.exponent; values = zs }) ∷ es)
    ((λ j. brought C (now k i (b j) p.exponent n) 0 rs) ∙ brings_told hw (at_blocks tt (omega arith)))
brings_told {h} (w_close {k = k} {i} c hw) (at_blocks f l) = rw (rec_label c (known_maps.6 k)) (brings_told hw (at_maps k i (per_map h - 0)))
brings_told (w_file c u hw) (at_maps k i b) = rw (rec_label c known_maps.4) (brings_told hw at_end)
brings_told {h = h} {s = s} (w_other {p = p} Tec {x = x} {ms = ms} {r = r} {rs = rs} o c u v z hw) _ = elim o [ ]

pub known_version : Known version
unfolding lookup name pick same sames ℕ_discrete
known_version = refl
