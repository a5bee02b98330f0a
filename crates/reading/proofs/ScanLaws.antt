use Rattle.std.specs.Prelude.{Option, Some, None}
-- A record's fields by the columns of its line, which may stop early.
use mathlib.Core.Path.{◌≡◌, refl, sym, ap, ap₂, ◌∙◌}
use mathlib.Core.List.{List, [], ◌∷◌}
use Prim.Native.Nat.{ℕ, suc, ◌+◌, ◌-◌, ◌≤◌}
use native.Mathlib.Nat.{suc-add}
use native.Mathlib.Decide.{ℕ_discrete}
use native.Mathlib.Omega.{arith}
use lib.ListN.{length, take, drop}
use lib.Seq.{drop-drop, take-take}
use borrow.Author.Tests.{eq-eqb, ne_eqb}
use Rattle.kit.specs.Answer.{Answer, ok, need, amap, all_dec}
use Rattle.kit.proofs.AnswerLaws.{need_yes, need_no, pick_yes, pick_no}
use Rattle.kit.proofs.ListLaws.{drop_take}
use Rattle.forms.specs.Form as form
use Rattle.forms.specs.Read.{read_field}
use Rattle.forms.specs.Columns.{columns, further, first_not_blank}
use Rattle.forms.proofs.ColumnLaws.{columns_padded}
use Rattle.layout.specs.Text.{pad}
use Rattle.layout.specs.Records.{Item, I, F, D, X, A, U, Vals}
use Rattle.reading.specs.declared.Fault.{Fault}
use Rattle.reading.specs.Feed.{fault}
use Rattle.reading.specs.Fields.{number, blanks, blank, scan, unless}
use Rattle.reading.proofs.RecordLaws.{size}

-- ---- columns that must be blank

further_one : (c : ℕ) (f : Option ℕ) → further c (further 1 f) ≡ further (suc c) f
further_one c (Some i) = ap Some (omega arith)
further_one c None = refl

need_iff : {A P Q : Type 0} (d : Dec P) (e : Dec Q) (w : Fault) (x : Answer Fault A) → (P → Q) → (Q → P) → need d w x ≡ need e w x
unfolding need
need_iff (yes p) e w x f g = sym (need_yes e w x (f p))
need_iff (no n) e w x f g = sym (need_no e w x (λ q. n (g q)))

blank_cons : {A : Type 0} (b : ℕ) (bs : List ℕ) (c : ℕ) (x : Answer Fault A) → Dec (b ≡ 32)
    → blank bs (suc c) x ≡ unless (further (suc c) (first_not_blank bs)) x → blank (b ∷ bs) c x ≡ unless (further c (first_not_blank (b ∷ bs))) x
unfolding blank blanks first_not_blank
blank_cons b bs c x (yes e) ih =
    let n : c + suc (blanks bs) ≡ suc c + blanks bs = omega arith in
    rw (pick_yes (ℕ_discrete b 32) (suc (blanks bs)) 0 e, eq-eqb b 32 e, further_one c (first_not_blank bs), n)
    (need_iff (all_dec (λ b. ℕ_discrete b 32) (b ∷ bs)) (all_dec (λ b. ℕ_discrete b 32) bs) (fault 6 (suc c + blanks bs)) x (λ h. h.1) (λ h. (e, h)) ∙ ih)
blank_cons b bs c x (no n) ih =
    rw (pick_no (ℕ_discrete b 32) (suc (blanks bs)) 0 n, ne_eqb b 32 n) (need_no (all_dec (λ b. ℕ_discrete b 32) (b ∷ bs)) (fault 6 (c + 0)) x (λ h. n h.0))

blank_first : {A : Type 0} (bs : List ℕ) (c : ℕ) (x : Answer Fault A) → blank bs c x ≡ unless (further c (first_not_blank bs)) x
blank_first [] c x = unfold blank first_not_blank in need_yes (all_dec (λ b. ℕ_discrete b 32) []) (fault 6 (c + blanks [])) x tt
blank_first (b ∷ bs) c x = blank_cons b bs c x (ℕ_discrete b 32) (blank_first bs (suc c) x)

-- ---- the columns of a padded line

-- the values of the columns after the first a, by the line's columns
abbrev pub scanned : ℕ → (is : List Item) → List ℕ → Answer Fault (Vals is)
scanned a [] line = ok tt
scanned a (I w ∷ is) line = number (read_field form.I (columns line a w)) (suc a) (λ z. amap (λ vs. (z, vs)) (scanned (a + w) is line))
scanned a (F w ∷ is) line = number (read_field form.F1 (columns line a w)) (suc a) (λ z. amap (λ vs. (z, vs)) (scanned (a + w) is line))
scanned a (D w ∷ is) line = number (read_field form.F3 (columns line a w)) (suc a) (λ z. amap (λ vs. (z, vs)) (scanned (a + w) is line))
scanned a (X w ∷ is) line = unless (further (suc a) (first_not_blank (columns line a w))) (scanned (a + w) is line)
scanned a (A w ∷ is) line = amap (λ vs. (columns line a w, vs)) (scanned (a + w) is line)
scanned a (U w ∷ is) line = scanned (a + w) is line

module _ (line : List ℕ) (fits : length line ≤ 80) where
  column_run : (a w : ℕ) → a + w ≤ 60 → take w (drop a (take 60 (pad line))) ≡ columns line a w
  unfolding pad
  column_run a w h = ap (take w) (drop_take a 60 (pad line)) ∙ take-take w (60 - a) (drop a (pad line)) (omega arith) ∙ sym (columns_padded line a w (omega arith) fits)

  later : (w : ℕ) (is : List Item) (a : ℕ) → scan (suc (a + w)) is (drop (a + w) (take 60 (pad line))) ≡ scanned (a + w) is line
      → scan (suc a + w) is (drop w (drop a (take 60 (pad line)))) ≡ scanned (a + w) is line
  later w is a e = rw (drop-drop w a (take 60 (pad line)), suc-add a w) e

  scan_is : (is : List Item) (a : ℕ) → a + size is ≤ 60 → scan (suc a) is (drop a (take 60 (pad line))) ≡ scanned a is line
  unfolding scan
  scan_is [] a h = refl
  scan_is (I w ∷ is) a h =
      ap₂ (λ (bs : List ℕ) (x : Answer Fault (Vals is)). number (read_field form.I bs) (suc a) (λ z. amap (λ vs. (z, vs)) x)) (column_run a w (omega arith)) (later w is a (scan_is is (a + w) (omega arith)))
  scan_is (F w ∷ is) a h =
      ap₂ (λ (bs : List ℕ) (x : Answer Fault (Vals is)). number (read_field form.F1 bs) (suc a) (λ z. amap (λ vs. (z, vs)) x)) (column_run a w (omega arith)) (later w is a (scan_is is (a + w) (omega arith)))
  scan_is (D w ∷ is) a h =
      ap₂ (λ (bs : List ℕ) (x : Answer Fault (Vals is)). number (read_field form.F3 bs) (suc a) (λ z. amap (λ vs. (z, vs)) x)) (column_run a w (omega arith)) (later w is a (scan_is is (a + w) (omega arith)))
  scan_is (X w ∷ is) a h =
      ap₂ (λ (bs : List ℕ) (x : Answer Fault (Vals is)). blank bs (suc a) x) (column_run a w (omega arith)) (later w is a (scan_is is (a + w) (omega arith)))
      ∙ blank_first (columns line a w) (suc a) (scanned (a + w) is line)
  scan_is (A w ∷ is) a h =
      ap₂ (λ (bs : List ℕ) (x : Answer Fault (Vals is)). amap (λ vs. (bs, vs)) x) (column_run a w (omega arith)) (later w is a (scan_is is (a + w) (omega arith)))
  scan_is (U w ∷ is) a h = later w is a (scan_is is (a + w) (omega arith))

  pub read_is : (is : List Item) → size is ≤ 60 → scan 1 is (take 60 (pad line)) ≡ scanned 0 is line
  read_is is h = scan_is is 0 (omega arith)
