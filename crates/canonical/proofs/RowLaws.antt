-- The rows of canonical text: each is its record, of 80 printable columns, and not blank.
use mathlib.Core.Path.{◌≡◌, refl, ap, ◌∙◌}
use mathlib.Core.Bool.{Bool, true, false}
use mathlib.Core.Option.{none}
use mathlib.Core.List.{List, [], ◌∷◌, ◌++◌, append_assoc}
use Prim.Native.Nat.{ℕ, zero, suc, ◌+◌, ◌-◌, ◌*◌, ◌≤◌}
use native.Mathlib.Omega.{arith}
use native.Mathlib.Decide.{ℕ_discrete, dec_le}
use lib.IntN.{ℤ}
use lib.ListN.{length, replicate, take, drop, length-append, length-replicate, length-drop, take-append-drop}
use lib.Seq.{length-take-le}
use Rattle.kit.specs.Answer.{All, pick, ×_dec, all_dec, same, sames}
use Rattle.kit.proofs.AnswerLaws.{pick_elim}
use Rattle.kit.proofs.ListLaws.{all_append, all_front, all_behind}
use Rattle.kit.proofs.TruthLaws.{decided}
use Rattle.kit.specs.Range.{within?, Printable}
use Rattle.forms.specs.Form as form
use Rattle.forms.specs.Form.{Form, Digit, sign, pointed, Spells}
use Rattle.forms.specs.Show.{show_field, FieldRoom}
use Rattle.forms.proofs.ShowLaws.{show_spells, written_spells}
use Rattle.forms.proofs.FieldLaws.{spells_width}
use Rattle.forms.specs.Columns.{Blank}
use Rattle.mapset.specs.Header.{Written}
use Rattle.layout.specs.Records.{Item, I, F, D, X, A, U, Vals, Fields, f_end, f_int, f_tenths, f_thousandths, f_blank, f_text, f_unread, Cells, c_blank, c_value, ValueRows, v_last, v_full}
use Rattle.layout.specs.Labels.{Label, layout, name, labels, Rec, rec}
use Rattle.reading.specs.Fields.{lookup, label}
use Rattle.reading.proofs.LineLaws.{spaces}
use Rattle.reading.proofs.RecordLaws.{Known, length_fields, size_layout, lookup_all, spaces_blank, rec_label}
use Rattle.canonical.specs.Canon.{columns_of, row_of, cells_of, value_row, value_rows}

-- ---- a field that is written is printable

digits_print : (l : List ℕ) → All Digit l → Printable l
digits_print [] a = tt
digits_print (d ∷ l) a = ((omega (arith, a.0), omega (arith, a.0)), digits_print l a.1)

sign_print : (b : Bool) → Printable (sign b)
sign_print true = ((omega arith, omega arith), tt)
sign_print false = tt

pointed_print : (l : List ℕ) → All Digit l → Printable (pointed l)
pointed_print [] a = tt
pointed_print (d ∷ l) a = ((omega arith, omega arith), digits_print (d ∷ l) a)

pub spells_print : {fm : Form} {w : ℕ} {z : ℤ} {f : List ℕ} → Spells fm w z f → Printable f
spells_print s =
    rw s.bytes
    (all_append _ (replicate s.blanks 32) _ (spaces s.blanks)
    (all_append _ (sign s.minus) _ (sign_print s.minus)
    (all_append _ s.whole _ (digits_print s.whole (all_front Digit s.whole s.part s.digits)) (pointed_print s.part (all_behind Digit s.whole s.part s.digits)))))

-- ---- a layout's columns

-- each number has room, each text its width, and its bytes are printable
abbrev pub Roomy : (is : List Item) → Vals is → Type 0
Roomy [] v = Unit {0}
Roomy (I w ∷ is) v = FieldRoom form.I w v.0 × Roomy is v.1
Roomy (F w ∷ is) v = FieldRoom form.W1 w v.0 × Roomy is v.1
Roomy (D w ∷ is) v = FieldRoom form.F3 w v.0 × Roomy is v.1
Roomy (X w ∷ is) v = Roomy is v
Roomy (A w ∷ is) v = Written w v.0 × Roomy is v.1
Roomy (U w ∷ is) v = Roomy is v

roomy_fields : (is : List Item) (v : Vals is) → Roomy is v → Fields is v (columns_of is v)
unfolding columns_of
roomy_fields [] v r = f_end
roomy_fields (I w ∷ is) v r = f_int (show_field form.I w v.0) (show_spells r.0) (roomy_fields is v.1 r.1)
roomy_fields (F w ∷ is) v r = f_tenths (show_field form.W1 w v.0) (written_spells r.0) (roomy_fields is v.1 r.1)
roomy_fields (D w ∷ is) v r = f_thousandths (show_field form.F3 w v.0) (show_spells r.0) (roomy_fields is v.1 r.1)
roomy_fields (X w ∷ is) v r = f_blank (roomy_fields is v r)
roomy_fields (A w ∷ is) v r = f_text v.0 r.0.0 (roomy_fields is v.1 r.1)
roomy_fields (U w ∷ is) v r = f_unread (replicate w 32) (length-replicate w 32) (roomy_fields is v r)

roomy_print : (is : List Item) (v : Vals is) → Roomy is v → Printable (columns_of is v)
unfolding columns_of
roomy_print [] v r = tt
roomy_print (I w ∷ is) v r = all_append _ (show_field form.I w v.0) _ (spells_print (show_spells r.0)) (roomy_print is v.1 r.1)
roomy_print (F w ∷ is) v r = all_append _ (show_field form.W1 w v.0) _ (spells_print (show_spells r.0)) (roomy_print is v.1 r.1)
roomy_print (D w ∷ is) v r = all_append _ (show_field form.F3 w v.0) _ (spells_print (show_spells r.0)) (roomy_print is v.1 r.1)
roomy_print (X w ∷ is) v r = all_append _ (replicate w 32) _ (spaces w) (roomy_print is v r)
roomy_print (A w ∷ is) v r = all_append _ v.0 _ r.0.1 (roomy_print is v.1 r.1)
roomy_print (U w ∷ is) v r = all_append _ (replicate w 32) _ (spaces w) (roomy_print is v r)

-- ---- labels

abbrev Named : Label → Type 0
Named l = Printable (name l)

name_length : (l : Label) → Known l → length (name l) ≡ 20
unfolding all_dec ×_dec ℕ_discrete name
name_length l k = lookup_all (λ l. length (name l) ≡ 20) (name l) labels l (decided (all_dec (λ l. ℕ_discrete (length (name l)) 20) labels)) k

pub name_print : (l : Label) → Known l → Printable (name l)
unfolding all_dec within? ×_dec dec_le name
name_print l k = lookup_all Named (name l) labels l (decided (all_dec (λ l. all_dec (within? 32 126) (name l)) labels)) k

-- ---- rows

-- 80 columns, printable, and not all blank
pub record GoodRow (r : List ℕ) : Type 0 where
  pub width : length r ≡ 80
  pub print : Printable r
  pub shown : ¬ All Blank r

blank_label : label (replicate 80 32) ≡ none
unfolding label lookup name pick same sames ℕ_discrete
blank_label = refl

pub rec_good : {l : Label} {v : Vals (layout l)} {r : List ℕ} → Known l → Rec l v r → length r ≡ 80 → Printable r → GoodRow r
rec_good {l} {v} {r} k c z p =
    record {
      width = z;
      print = p;
      shown = λ b.
          let e : r ≡ replicate 80 32 = spaces_blank r b ∙ ap (λ n. replicate n 32) z in
          let q = rec_label c k in
          let u = ap label e ∙ blank_label in
          let x : ◌≡◌ {A = ℕ} 0 1 = cc in omega arith;
    }

pub row_is : (l : Label) (v : Vals (layout l)) → Roomy (layout l) v → Rec l v (row_of l v)
unfolding row_of
row_is l v r = rec (roomy_fields (layout l) v r)

pub rec_length : (l : Label) → Known l → {v : Vals (layout l)} {fs : List ℕ} → Fields (layout l) v fs → length (fs ++ name l) ≡ 80
rec_length l k {fs = fs} h = length-append fs (name l) ∙ omega (arith, length_fields h, size_layout l, name_length l k)

pub row_good : (l : Label) (v : Vals (layout l)) → Known l → Roomy (layout l) v → GoodRow (row_of l v)
unfolding row_of
row_good l v k r =
    rec_good k (row_is l v r) (rec_length l k (roomy_fields (layout l) v r)) (all_append _ (columns_of (layout l) v) _ (roomy_print (layout l) v r) (name_print l k))

-- ---- a block's values

abbrev pub Fives : List ℤ → Type 0
Fives zs = All (λ z. FieldRoom form.I 5 z) zs

cells_is : (zs : List ℤ) (g : ℕ) → Fives zs → Cells zs (cells_of zs ++ replicate g 32)
unfolding cells_of
cells_is [] g a = c_blank g
cells_is (z ∷ zs) g a = rw append_assoc (c_value (show_field form.I 5 z) (show_spells a.0) (cells_is zs g a.1))

cells_length : (zs : List ℤ) → Fives zs → length (cells_of zs) ≡ 5 * length zs
unfolding cells_of
cells_length [] a = refl
cells_length (z ∷ zs) a = length-append (show_field form.I 5 z) (cells_of zs) ∙ omega (arith, cells_length zs a.1, spells_width (show_spells {fm = form.I} {w = 5} {z = z} a.0))

cells_print : (zs : List ℤ) → Fives zs → Printable (cells_of zs)
unfolding cells_of
cells_print [] a = tt
cells_print (z ∷ zs) a = all_append _ (show_field form.I 5 z) _ (spells_print (show_spells {fm = form.I} {w = 5} {z = z} a.0)) (cells_print zs a.1)

-- a digit is no blank
digit_shown : (l : List ℕ) → 1 ≤ length l → All Digit l → ¬ All Blank l
digit_shown [] n d b = omega arith
digit_shown (x ∷ l) n d b = omega (arith, d.0, b.0)

number_shown : {w : ℕ} {z : ℤ} {f : List ℕ} → Spells form.I w z f → ¬ All Blank f
number_shown {f = f} s b =
    let x : All Blank (replicate s.blanks 32 ++ (sign s.minus ++ (s.whole ++ pointed s.part))) = rw s.bytes at b in
    let y = all_behind Blank (replicate s.blanks 32) _ x in
    let w = all_front Blank s.whole _ (all_behind Blank (sign s.minus) _ y) in
    digit_shown s.whole s.enough (all_front Digit s.whole s.part s.digits) w

cells_shown : (zs : List ℤ) → 1 ≤ length zs → Fives zs → ¬ All Blank (cells_of zs)
unfolding cells_of
cells_shown [] l a b = omega arith
cells_shown (z ∷ zs) l a b = number_shown (show_spells {fm = form.I} {w = 5} {z = z} a.0) (all_front Blank (show_field form.I 5 z) (cells_of zs) b)

module _ (zs : List ℤ) (l : 1 ≤ length zs) (u : length zs ≤ 16) (a : Fives zs) where
  value_length : length (value_row zs) ≡ 80
  unfolding value_row
  value_length = length-append (cells_of zs) (replicate (80 - 5 * length zs) 32) ∙ omega (arith, cells_length zs a, length-replicate {A = ℕ} (80 - 5 * length zs) 32)

  value_cells : Cells zs (value_row zs)
  unfolding value_row
  value_cells = cells_is zs (80 - 5 * length zs) a

  value_good : GoodRow (value_row zs)
  unfolding value_row
  value_good = record { width = value_length; print = all_append _ (cells_of zs) _ (cells_print zs a) (spaces (80 - 5 * length zs)); shown = λ b. cells_shown zs l a (all_front Blank (cells_of zs) (replicate (80 - 5 * length zs) 32) b) }

take_fives : (n : ℕ) (zs : List ℤ) → Fives zs → Fives (take n zs)
take_fives zero zs a = tt
take_fives (suc n) [] a = tt
take_fives (suc n) (z ∷ zs) a = (a.0, take_fives n zs a.1)

drop_fives : (n : ℕ) (zs : List ℤ) → Fives zs → Fives (drop n zs)
drop_fives zero zs a = a
drop_fives (suc n) [] a = tt
drop_fives (suc n) (z ∷ zs) a = drop_fives n zs a.1

pub values_good : (n : ℕ) (zs : List ℤ) → 1 ≤ length zs → length zs ≤ n * 16 + 16 → Fives zs → ValueRows zs (value_rows n zs) × All GoodRow (value_rows n zs)
unfolding value_rows
values_good zero zs l u a = (v_last {zs = zs} l (omega arith) (value_length zs l (omega arith) a) (value_cells zs l (omega arith) a), (value_good zs l (omega arith) a, tt))
values_good (suc n) zs l u a =
    pick_elim (λ rs. ValueRows zs rs × All GoodRow rs) (dec_le (length zs) 16)
    (λ h. (v_last l h (value_length zs l h a) (value_cells zs l h a), (value_good zs l h a, tt)))
    (λ k.
    let t : length (take 16 zs) ≡ 16 = length-take-le 16 zs (omega arith) in
    let x = take_fives 16 zs a in
    let d : length (drop 16 zs) ≡ length zs - 16 = length-drop 16 zs in
    let r = values_good n (drop 16 zs) (omega arith) (omega arith) (drop_fives 16 zs a) in
    let w : ValueRows (take 16 zs ++ drop 16 zs) (value_row (take 16 zs) ∷ value_rows n (drop 16 zs)) = v_full t (value_length (take 16 zs) (omega arith) (omega arith) x) (value_cells (take 16 zs) (omega arith) (omega arith) x) r.0 in
    (rw take-append-drop at w, (value_good (take 16 zs) (omega arith) (omega arith) x, r.1)))
