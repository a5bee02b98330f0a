use Rattle.std.specs.Prelude.{Option, Some, None}
-- A row's label and fields are the only ones: what a layout makes is what is scanned.
use mathlib.Core.Path.{◌≡◌, refl, sym, ap, ◌∙◌}
use Prim.Native.Nat.{ℕ, zero, suc, ◌+◌, ◌*◌, ◌≤◌, ◌<◌}
use native.Mathlib.Omega.{arith}
use native.Mathlib.Decide.{ℕ_discrete, dec_lt}
use mathlib.Core.Option.{some}
use mathlib.Core.List.{List, [], ◌∷◌, ◌++◌}
use lib.ListN.{length, replicate, take, drop, length-append, length-replicate, length-drop, take-append-drop}
use lib.Seq.{take_at, drop_at, length-take-le}
use lib.IntN.{ℤ}
use Rattle.kit.specs.Answer.{Answer, ok, amap, pick, same, sames, all_dec, ×_dec, All}
use Rattle.kit.proofs.AnswerLaws.{need_yes, pick_elim, Yields, y_ok, y_no, yields, need_yields, amap_yields, yields_map}
use Rattle.kit.proofs.ListLaws.{below, all_front, all_behind}
use Rattle.kit.proofs.TruthLaws.{decided}
use Rattle.kit.specs.Range.{Printable}
use Rattle.forms.specs.Form as form
use Rattle.forms.specs.Form.{Form, Spells}
use Rattle.forms.specs.Read.{read_field}
use Rattle.forms.specs.Columns.{Blank}
use Rattle.forms.proofs.FieldLaws.{read_made, made_read, spells_width}
use Rattle.mapset.specs.declared.Kind.{Kind}
use Rattle.mapset.specs.declared.Kind.TheVariants.{Tec, Rms, Height}
use Rattle.mapset.specs.Header.{Content, count, tenths, epoch as an_epoch, axis, program, mapping, observables, system as a_system, Written}
use Rattle.layout.specs.Records.{Item, I, F, D, X, A, U, Vals, Fields, f_end, f_int, f_tenths, f_thousandths, f_blank, f_text, f_unread, Cells, c_blank, c_value}
use Rattle.layout.specs.Labels.{Label, version, description, comment, system, exponent, aux_start, aux_end, header_end, epoch, block, file_end, head, start, end, name, items, content, layout, labels, Rec, rec}
use Rattle.reading.specs.declared.Fault.{Fault}
use Rattle.reading.specs.Fields.{lookup, label, number, blank, scan, fields, cells}

-- ---- blanks

pub blank_spaces : (n : ℕ) → All Blank (replicate n 32)
blank_spaces zero = tt
blank_spaces (suc n) = (refl, blank_spaces n)

pub spaces_blank : (l : List ℕ) → All Blank l → l ≡ replicate (length l) 32
spaces_blank [] a = refl
spaces_blank (b ∷ l) a = λ i. a.0 i ∷ spaces_blank l a.1 i

module _ {A : Type 0} where
  pub blank_of : (bs : List ℕ) (c : ℕ) (x : Answer Fault A) → All Blank bs → blank bs c x ≡ x
  unfolding blank
  blank_of bs c x a = need_yes _ _ _ a

module _ {A : Type 0} {Q : A → Type 0} where
  number_yields : (o : Option ℤ) (c : ℕ) {f : ℤ → Answer Fault A} → ((z : ℤ) → o ≡ Some z → Yields Q (f z)) → Yields Q (number o c f)
  unfolding number
  number_yields (Some z) c h = h z refl
  number_yields None c h = y_no

  blank_yields : (bs : List ℕ) (c : ℕ) {x : Answer Fault A} → (All Blank bs → Yields Q x) → Yields Q (blank bs c x)
  unfolding blank
  blank_yields bs c h = need_yields _ _ h

-- ---- layouts

pub scan_of : {is : List Item} {vs : Vals is} {bs : List ℕ} → Fields is vs bs → (c : ℕ) → scan c is bs ≡ ok vs
unfolding scan number amap
scan_of f_end c = refl
scan_of (f_int {w} bs {rest = rest} s h) c =
    rw (take_at bs rest w (spells_width s), drop_at bs rest w (spells_width s), read_made s, scan_of h (c + w))
scan_of (f_tenths {w} bs {rest = rest} s h) c =
    rw (take_at bs rest w (spells_width s), drop_at bs rest w (spells_width s), read_made s, scan_of h (c + w))
scan_of (f_thousandths {w} bs {rest = rest} s h) c =
    rw (take_at bs rest w (spells_width s), drop_at bs rest w (spells_width s), read_made s, scan_of h (c + w))
scan_of (f_blank {w} {rest = rest} h) c =
    rw (take_at (replicate w 32) rest w (length-replicate w 32), drop_at (replicate w 32) rest w (length-replicate w 32))
    (blank_of (replicate w 32) c _ (blank_spaces w) ∙ scan_of h (c + w))
scan_of (f_text {w} bs {rest = rest} e h) c = rw (take_at bs rest w e, drop_at bs rest w e, scan_of h (c + w))
scan_of (f_unread {w} bs {rest = rest} e h) c = rw (drop_at bs rest w e) (scan_of h (c + w))

abbrev pub size : List Item → ℕ
size [] = 0
size (I w ∷ is) = w + size is
size (F w ∷ is) = w + size is
size (D w ∷ is) = w + size is
size (X w ∷ is) = w + size is
size (A w ∷ is) = w + size is
size (U w ∷ is) = w + size is

pub length_fields : {is : List Item} {vs : Vals is} {bs : List ℕ} → Fields is vs bs → length bs ≡ size is
length_fields f_end = refl
length_fields (f_int bs {rest = rest} s h) = let i = length_fields h in let e = spells_width s in simp length-append (omega arith)
length_fields (f_tenths bs {rest = rest} s h) = let i = length_fields h in let e = spells_width s in simp length-append (omega arith)
length_fields (f_thousandths bs {rest = rest} s h) = let i = length_fields h in let e = spells_width s in simp length-append (omega arith)
length_fields (f_blank {w} {rest = rest} h) = let i = length_fields h in simp (length-append, length-replicate) (omega arith)
length_fields (f_text bs {rest = rest} e h) = let i = length_fields h in simp length-append (omega arith)
length_fields (f_unread bs {rest = rest} e h) = let i = length_fields h in simp length-append (omega arith)

-- a field, of columns that are cut and not joined
cut_field : (fm : Form) (w : ℕ) (bs : List ℕ) {z : ℤ} → w ≤ length bs → read_field fm (take w bs) ≡ Some z → Spells fm w z (take w bs)
cut_field fm w bs l e = rw (length-take-le w bs l) at (made_read (take w bs) e)

module _ (w : ℕ) (bs : List ℕ) (l : w ≤ length bs) {is : List Item} {vs : Vals is} (h : Fields is vs (drop w bs)) where
  cut_int : {z : ℤ} → read_field form.I (take w bs) ≡ Some z → Fields (I w ∷ is) (z, vs) bs
  cut_int e = rw take-append-drop at (f_int (take w bs) (cut_field form.I w bs l e) h)

  cut_tenths : {z : ℤ} → read_field form.F1 (take w bs) ≡ Some z → Fields (F w ∷ is) (z, vs) bs
  cut_tenths e = rw take-append-drop at (f_tenths (take w bs) (cut_field form.F1 w bs l e) h)

  cut_thousandths : {z : ℤ} → read_field form.F3 (take w bs) ≡ Some z → Fields (D w ∷ is) (z, vs) bs
  cut_thousandths e = rw take-append-drop at (f_thousandths (take w bs) (cut_field form.F3 w bs l e) h)

  cut_blank : All Blank (take w bs) → Fields (X w ∷ is) vs bs
  cut_blank a =
      let p : replicate w 32 ≡ take w bs = ap (λ n. replicate n 32) (sym (length-take-le w bs l)) ∙ sym (spaces_blank (take w bs) a) in
      rw (p, take-append-drop) at (f_blank {w = w} h)

  cut_text : Fields (A w ∷ is) (take w bs, vs) bs
  cut_text = rw take-append-drop at (f_text (take w bs) (length-take-le w bs l) h)

  cut_unread : Fields (U w ∷ is) vs bs
  cut_unread = rw take-append-drop at (f_unread (take w bs) (length-take-le w bs l) h)

rest_size : (w s : ℕ) (bs : List ℕ) → length bs ≡ w + s → length (drop w bs) ≡ s
rest_size w s bs z = simp length-drop (omega arith)

pub scan_yields : (c : ℕ) (is : List Item) (bs : List ℕ) → length bs ≡ size is → Yields (λ vs. Fields is vs bs) (scan c is bs)
unfolding scan
scan_yields c [] [] z = y_ok f_end
scan_yields c [] (b ∷ bs) z = absurd (omega arith)
scan_yields c (I w ∷ is) bs z =
    number_yields _ c (λ v e. amap_yields _ (yields_map (λ vs h. cut_int w bs (omega arith) h e) (scan_yields (c + w) is (drop w bs) (rest_size w (size is) bs z))))
scan_yields c (F w ∷ is) bs z =
    number_yields _ c (λ v e. amap_yields _ (yields_map (λ vs h. cut_tenths w bs (omega arith) h e) (scan_yields (c + w) is (drop w bs) (rest_size w (size is) bs z))))
scan_yields c (D w ∷ is) bs z =
    number_yields _ c (λ v e. amap_yields _ (yields_map (λ vs h. cut_thousandths w bs (omega arith) h e) (scan_yields (c + w) is (drop w bs) (rest_size w (size is) bs z))))
scan_yields c (X w ∷ is) bs z =
    blank_yields _ c (λ a. yields_map (λ vs h. cut_blank w bs (omega arith) h a) (scan_yields (c + w) is (drop w bs) (rest_size w (size is) bs z)))
scan_yields c (A w ∷ is) bs z =
    amap_yields _ (yields_map (λ vs h. cut_text w bs (omega arith) h) (scan_yields (c + w) is (drop w bs) (rest_size w (size is) bs z)))
scan_yields c (U w ∷ is) bs z = yields_map (λ vs h. cut_unread w bs (omega arith) h) (scan_yields (c + w) is (drop w bs) (rest_size w (size is) bs z))

-- ---- every layout has 60 columns

size_items : (k : Content) → size (items k) ≡ 60
size_items (count low high) = refl
size_items (tenths low high) = refl
size_items an_epoch = refl
size_items (axis l) = refl
size_items program = refl
size_items mapping = refl
size_items observables = refl
size_items a_system = refl

pub size_layout : (l : Label) → size (layout l) ≡ 60
size_layout version = refl
size_layout description = refl
size_layout comment = refl
size_layout (head i) = size_items (content i)
size_layout system = refl
size_layout exponent = refl
size_layout aux_start = refl
size_layout aux_end = refl
size_layout header_end = refl
size_layout (start k) = refl
size_layout (end k) = refl
size_layout epoch = refl
size_layout block = refl
size_layout file_end = refl

-- ---- labels

-- the label is found by its name
abbrev pub Known : Label → Type 0
Known l = lookup (name l) labels ≡ some l

pub known_head : (i : ℕ) → i < 15 → Known (head i)
unfolding lookup name pick same sames ℕ_discrete
known_head i h =
    below (λ i. Known (head i)) 15
    (refl, (refl, (refl, (refl, (refl, (refl, (refl, (refl, (refl, (refl, (refl, (refl, (refl, (refl, (refl, tt))))))))))))))) i h

pub known_maps : Known comment × Known exponent × Known epoch × Known block × Known file_end × ((k : Kind) → Known (start k)) × ((k : Kind) → Known (end k))
unfolding lookup name pick same sames ℕ_discrete
known_maps = (refl, refl, refl, refl, refl, known_start, known_end)
  where
    known_start : (k : Kind) → lookup (name (start k)) labels ≡ some (start k)
    known_start Tec = refl
    known_start Rms = refl
    known_start Height = refl

    known_end : (k : Kind) → lookup (name (end k)) labels ≡ some (end k)
    known_end Tec = refl
    known_end Rms = refl
    known_end Height = refl

pub known_heads : Known description × Known system × Known aux_start × Known header_end
unfolding lookup name pick same sames ℕ_discrete
known_heads = (refl, refl, refl, refl)

pub lookup_all : (P : Label → Type 0) (s : List ℕ) (ls : List Label) (l : Label) → All P ls → lookup s ls ≡ some l → P l
unfolding lookup
lookup_all P s [] l a e = let z : ◌≡◌ {A = ℕ} 0 1 = cc in absurd (omega arith)
lookup_all P s (x ∷ ls) l a e =
    pick_elim (λ o. o ≡ some l → P l) (same s (name x)) (λ p q. let y : x ≡ l = cc in rw y at a.0) (λ _ q. lookup_all P s ls l a.1 q) e

-- the labels of header records are 15
abbrev Few : Label → Type 0
Few version = Unit {0}
Few description = Unit {0}
Few comment = Unit {0}
Few (head i) = i < 15
Few system = Unit {0}
Few exponent = Unit {0}
Few aux_start = Unit {0}
Few aux_end = Unit {0}
Few header_end = Unit {0}
Few (start k) = Unit {0}
Few (end k) = Unit {0}
Few epoch = Unit {0}
Few block = Unit {0}
Few file_end = Unit {0}

few? : (l : Label) → Dec (Few l)
few? version = yes tt
few? description = yes tt
few? comment = yes tt
few? (head i) = dec_lt i 15
few? system = yes tt
few? exponent = yes tt
few? aux_start = yes tt
few? aux_end = yes tt
few? header_end = yes tt
few? (start k) = yes tt
few? (end k) = yes tt
few? epoch = yes tt
few? block = yes tt
few? file_end = yes tt

pub label_head : (r : List ℕ) (i : ℕ) → label r ≡ some (head i) → i < 15
unfolding label few? all_dec dec_lt ×_dec
label_head r i e = lookup_all Few (drop 60 r) labels (head i) (decided (all_dec few? labels)) e

pub lookup_ok : (s : List ℕ) (ls : List Label) (l : Label) → lookup s ls ≡ some l → s ≡ name l
unfolding lookup
lookup_ok s [] l e = let z : ◌≡◌ {A = ℕ} 0 1 = cc in absurd (omega arith)
lookup_ok s (x ∷ ls) l e = pick_elim (λ o. o ≡ some l → s ≡ name l) (same s (name x)) (λ p q. cc) (λ _ q. lookup_ok s ls l q) e

-- ---- records

-- of a record, the label and the values are found
module _ {l : Label} {vs : Vals (layout l)} where
  pub rec_name : {r : List ℕ} → Rec l vs r → drop 60 r ≡ name l
  rec_name (rec {fs} h) = drop_at fs (name l) 60 (length_fields h ∙ size_layout l)

  pub rec_label : {r : List ℕ} → Rec l vs r → Known l → label r ≡ some l
  unfolding label
  rec_label c k = rw (rec_name c) k

  pub rec_fields : {r : List ℕ} → Rec l vs r → fields l r ≡ ok vs
  unfolding fields
  rec_fields (rec {fs} h) = rw (take_at fs (name l) 60 (length_fields h ∙ size_layout l)) (scan_of h 1)

  -- and a row with that label and these values is that record
  pub named_rec : (r : List ℕ) → length r ≡ 80 → drop 60 r ≡ name l → fields l r ≡ ok vs → Rec l vs r
  unfolding fields
  named_rec r z p e =
      let t : length (take 60 r) ≡ size (layout l) = length-take-le 60 r (omega arith) ∙ sym (size_layout l) in
      let x : Rec l vs (take 60 r ++ name l) = rec (yields _ (scan_yields 1 (layout l) (take 60 r) t) e) in
      rw (← p, take-append-drop) at x

  pub row_rec : (r : List ℕ) → length r ≡ 80 → label r ≡ some l → fields l r ≡ ok vs → Rec l vs r
  unfolding label
  row_rec r z e f = named_rec r z (lookup_ok (drop 60 r) labels l e) f

-- ---- the texts of a record are printable where its row is

abbrev pub AllWritten : (is : List Item) → Vals is → Type 0
AllWritten [] vs = Unit {0}
AllWritten (I w ∷ is) vs = AllWritten is vs.1
AllWritten (F w ∷ is) vs = AllWritten is vs.1
AllWritten (D w ∷ is) vs = AllWritten is vs.1
AllWritten (X w ∷ is) vs = AllWritten is vs
AllWritten (A w ∷ is) vs = Written w vs.0 × AllWritten is vs.1
AllWritten (U w ∷ is) vs = AllWritten is vs

pub fields_written : {is : List Item} {vs : Vals is} {bs : List ℕ} → Fields is vs bs → Printable bs → AllWritten is vs
fields_written f_end p = tt
fields_written (f_int bs {rest = rest} s h) p = fields_written h (all_behind _ bs rest p)
fields_written (f_tenths bs {rest = rest} s h) p = fields_written h (all_behind _ bs rest p)
fields_written (f_thousandths bs {rest = rest} s h) p = fields_written h (all_behind _ bs rest p)
fields_written (f_blank {w} {rest = rest} h) p = fields_written h (all_behind _ (replicate w 32) rest p)
fields_written (f_text bs {rest = rest} e h) p = ((e, all_front _ bs rest p), fields_written h (all_behind _ bs rest p))
fields_written (f_unread bs {rest = rest} e h) p = fields_written h (all_behind _ bs rest p)

pub rec_written : {l : Label} {vs : Vals (layout l)} {r : List ℕ} → Rec l vs r → Printable r → AllWritten (layout l) vs
rec_written {l} (rec {fs} h) p = fields_written h (all_front _ fs (name l) p)

-- ---- the values of a row

pub cells_of : {zs : List ℤ} {bs : List ℕ} → Cells zs bs → (c : ℕ) → cells c (length zs) bs ≡ ok zs
unfolding cells number amap
cells_of (c_blank g) c = blank_of (replicate g 32) c _ (blank_spaces g)
cells_of (c_value bs {rest = rest} s h) c = rw (take_at bs rest 5 (spells_width s), drop_at bs rest 5 (spells_width s), read_made s, cells_of h (c + 5))

cut_cell : {z : ℤ} {zs : List ℤ} (bs : List ℕ) → 5 ≤ length bs → read_field form.I (take 5 bs) ≡ Some z → Cells zs (drop 5 bs) → Cells (z ∷ zs) bs
cut_cell bs l e h = rw take-append-drop at (c_value (take 5 bs) (cut_field form.I 5 bs l e) h)

pub cells_yields : (c m : ℕ) (bs : List ℕ) → m * 5 ≤ length bs → Yields (λ zs. Cells zs bs × (length zs ≡ m)) (cells c m bs)
unfolding cells
cells_yields c zero bs l = blank_yields bs c (λ a. y_ok (rw (spaces_blank bs a) (c_blank (length bs)), refl))
cells_yields c (suc m) bs l =
    number_yields _ c (λ z e. amap_yields _
    (yields_map (λ zs h. (cut_cell bs (omega arith) e h.0, ap suc h.1))
    (cells_yields (c + 5) m (drop 5 bs) (simp length-drop (omega arith)))))
