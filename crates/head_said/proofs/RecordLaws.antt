use Rattle.std.specs.Prelude.{Option, Some, None, Result, Ok, Err}
-- What a record says, by the fields that the code reads.
use mathlib.Core.Path.{◌≡◌, refl, sym, ap, ◌∙◌}
use mathlib.Core.Bool.{true, false}
use mathlib.Core.List.{List, [], ◌∷◌}
use Rattle.std.specs.Prelude.{Ok, Err}
use Prim.Native.Nat.{ℕ, ◌≤◌, ◌<◌}
use native.Mathlib.Omega.{arith}
use lib.ListN.{length, take}
use lib.Dec.{leb}
use lib.IntN.{ℤ, pos, negsuc, nat_abs}
use lib.Signed.{lt_z}
use borrow.Author.Tests.{leb-true, leb-false}
use Rattle.kit.specs.Answer.{Answer, ok, refused, need, bind, amap, pick}
use Rattle.kit.specs.Range.{natural?}
use Rattle.kit.specs.Truth.{truth}
use Rattle.kit.proofs.TruthLaws.{fails, tells}
use Rattle.kit.proofs.Parts.{lt_true, lt_false}
use Rattle.forms.specs.Form as form
use Rattle.forms.specs.Read.{read_field}
use Rattle.forms.specs.Columns.{columns}
use Rattle.forms.specs.Rows.{three_at, number_or}
use Rattle.mapset.specs.Grid.{Line}
use Rattle.mapset.specs.declared.Axis.{Axis}
use Rattle.mapset.specs.declared.axes.Misfit.TheVariants.{First, Last, Step, Together}
use Rattle.mapset.specs.Decisions.{end?, step?, together?}
use Rattle.mapset.specs.Judged.{judged}
use Rattle.mapset.specs.Header.{count, tenths, epoch as an_epoch, axis, program, mapping, observables, system as a_system, Said, number as number_said, along, words, counts}
use Rattle.layout.specs.Text.{pad}
use Rattle.layout.specs.Records.{F, X}
use Rattle.layout.specs.Labels.{exponent, epoch, header_end, items}
use Rattle.layout.specs.Layout.{Date}
use Rattle.reading.specs.declared.Fault.{Fault}
use Rattle.reading.specs.Feed.{fault, answer_of}
use Rattle.reading.specs.Fields.{number, scan, fields, blank_to, unless}
use Rattle.reading.specs.Maps.{date, on_date}
use Rattle.mapset.specs.Said.{axis_of}
use Rattle.reading.specs.Head.{meant}
use Rattle.reading.proofs.ScanLaws.{read_is}
use Rattle.maps_records.specs.Records.{told_one, one_of}
use Rattle.head_said.specs.Records.{tenths_in, version_in, system_in, axis_in, entry, told_heard, two_in, counts_after, in_range, ranged_in, judged_as}
use Rattle.std.specs.Prelude.{Result, Ok, Err}
use Rattle.head_said.specs.declared.Value.{Value}

-- ---- the records of numbers

module _ (line : List ℕ) (fits : length line ≤ 80) where
  pub tenths_is : tenths_in (pad line) ≡ one_of (read_field form.F1 (columns line 0 8)) (blank_to line 8 60)
  unfolding tenths_in blank_to
  tenths_is = read_is line fits (F 8 ∷ X 52 ∷ []) (omega arith)

  pub version_is : version_in (pad line) ≡ one_of (read_field form.F1 (columns line 0 8)) (blank_to line 8 20)
  unfolding version_in blank_to
  version_is = read_is line fits (F 8 ∷ X 12 ∷ []) (omega arith)

-- columns that are not blank refuse the record
pub blank_no : {A : Type 0} (o : Option ℕ) (f : Fault) (r : Result (Unit {0}) Fault) (x : Answer Fault A) → answer_of r ≡ unless o (ok tt) → r ≡ Err f → refused f ≡ unless o x
blank_no (Some c) f (Ok v) x h e = cc
blank_no (Some c) f (Err g) x h e = cc
blank_no None f (Ok v) x h e = cc
blank_no None f (Err g) x h e = cc

-- three numbers between columns that must be blank
abbrev three_of : Result (ℤ × ℤ × ℤ) ℕ → Option ℕ → Answer Fault (ℤ × ℤ × ℤ)
three_of (Err c) g = refused (fault 6 c)
three_of (Ok v) g = unless g (ok (v.0, v.1, v.2))

abbrev three_in : Option ℕ → Result (ℤ × ℤ × ℤ) ℕ → Option ℕ → Answer Fault (ℤ × ℤ × ℤ)
three_in f t g = unless f (three_of t g)

three_by : (f : Option ℕ) (x y z : Option ℤ) (g : Option ℕ)
    → amap (λ (v : ℤ × (ℤ × (ℤ × Unit {0}))). (v.0, v.1.0, v.1.1.0))
    (unless f (number x 3 (λ a. amap (λ vs. (a, vs)) (number y 9 (λ b. amap (λ vs. (b, vs)) (number z 15 (λ c. amap (λ vs. (c, vs)) (unless g (ok tt)))))))))
    ≡ three_in f (number_or x (Err 3) (λ a. number_or y (Err 9) (λ b. number_or z (Err 15) (λ c. Ok (a, b, c))))) g
unfolding amap number
three_by (Some c) x y z g = refl
three_by None None y z g = refl
three_by None (Some a) None z g = refl
three_by None (Some a) (Some b) None g = refl
three_by None (Some a) (Some b) (Some d) (Some c) = refl
three_by None (Some a) (Some b) (Some d) None = refl

module _ (line : List ℕ) (fits : length line ≤ 80) where
  pub axis_is : axis_in (pad line) ≡ three_in (blank_to line 0 2) (three_at form.F1 line 2) (blank_to line 20 60)
  unfolding axis_in blank_to three_at
  axis_is =
      ap (amap (λ v. (v.0, v.1.0, v.1.1.0))) (read_is line fits (X 2 ∷ F 6 ∷ F 6 ∷ F 6 ∷ X 40 ∷ []) (omega arith))
      ∙ three_by (blank_to line 0 2) (read_field form.F1 (columns line 2 6)) (read_field form.F1 (columns line 8 6)) (read_field form.F1 (columns line 14 6)) (blank_to line 20 60)

two_by : (f : Option ℕ) (t : List ℕ) (x y : Option ℤ) (g : Option ℕ)
    → amap (λ (v : List ℕ × (ℤ × (ℤ × Unit {0}))). (v.1.0, v.1.1.0))
    (unless f (amap (λ vs. (t, vs)) (number x 7 (λ a. amap (λ vs. (a, vs)) (number y 13 (λ b. amap (λ vs. (b, vs)) (unless g (ok tt))))))))
    ≡ unless f (two_in x y g)
unfolding amap number
two_by (Some c) t x y g = refl
two_by None t None y g = refl
two_by None t (Some a) None g = refl
two_by None t (Some a) (Some b) (Some c) = refl
two_by None t (Some a) (Some b) None = refl

module _ (line : List ℕ) (fits : length line ≤ 80) where
  pub system_is : system_in (pad line) ≡ unless (blank_to line 0 5) (counts_after line)
  unfolding system_in fields blank_to
  system_is =
      ap (amap (λ v. (v.1.0, v.1.1.0))) (read_is line fits (items a_system) (omega arith))
      ∙ two_by (blank_to line 0 5) (columns line 5 1) (read_field form.I (columns line 6 6)) (read_field form.I (columns line 12 6)) (blank_to line 18 60)

-- ---- ranges

module _ (low high : ℕ) where
  pub under_zero : (z : ℤ) → lt_z z (pos 0) ≡ true → false ≡ truth (natural? low high z)
  under_zero (pos n) e = absurd (omega (arith, lt_true (pos n) (pos 0) e))
  under_zero (negsuc n) e = fails (natural? low high (negsuc n)) (λ h. h)

  pub below_low : (z : ℤ) → nat_abs z < low → false ≡ truth (natural? low high z)
  below_low (pos n) l = fails (natural? low high (pos n)) (λ h. omega (arith, h.0))
  below_low (negsuc n) l = fails (natural? low high (negsuc n)) (λ h. h)

  pub up_to : (z : ℤ) → lt_z z (pos 0) ≡ false → low ≤ nat_abs z → leb (nat_abs z) high ≡ truth (natural? low high z)
  up_to (pos n) e l = tells (leb n high) (natural? low high (pos n)) (λ t. (l, leb-true n high t)) (λ t h. omega (arith, leb-false n high t, h.1))
  up_to (negsuc n) e l = absurd (omega (arith, lt_false (negsuc n) (pos 0) e))

-- ---- what they say

pub bind_amap : {A B C : Type 0} (f : A → B) (g : B → Answer Fault C) (x : Answer Fault A) → bind (amap f x) g ≡ bind x (λ a. g (f a))
unfolding bind amap
bind_amap f g (ok a) = refl
bind_amap f g (refused w) = refl

module _ (low high : ℕ) (x : Result ℤ Fault) (y : Answer Fault (ℤ × Unit {0})) (e : told_one x ≡ y) where
  pub ranged_on : (z : ℤ) → x ≡ Ok z → in_range low high z ≡ ranged_in low high y
  unfolding ranged_in bind
  ranged_on z o = ap (λ (r : Result ℤ Fault). ranged_in low high (told_one r)) (sym o) ∙ ap (ranged_in low high) e

  pub ranged_no : (f : Fault) → x ≡ Err f → refused f ≡ ranged_in low high y
  unfolding ranged_in bind
  ranged_no f o = ap (λ (r : Result ℤ Fault). ranged_in low high (told_one r)) (sym o) ∙ ap (ranged_in low high) e

pub count_says : (low high : ℕ) (r : List ℕ) → ranged_in low high (fields exponent r) ≡ entry (count low high) r
unfolding ranged_in in_range entry meant fields
count_says low high r = refl

-- a number is told alike, whole or in tenths
pub told_alike : (low high : ℕ) (h : Result Value Fault) → told_heard (tenths low high) h ≡ told_heard (count low high) h
told_alike low high (Ok v) = refl
told_alike low high (Err f) = refl

pub tenths_says : (low high : ℕ) (r : List ℕ) → ranged_in low high (tenths_in r) ≡ entry (tenths low high) r
unfolding ranged_in in_range tenths_in entry meant
tenths_says low high r = refl

-- what a date says
dates : (x : Answer Fault Date) → amap number_said (bind x (λ d. on_date (date d) ok)) ≡ bind x (meant an_epoch)
unfolding bind amap meant
dates (refused w) = refl
dates (ok d) = on (date d)
  where
    on : (t : Result ℕ ℕ) → amap number_said (on_date t ok) ≡ on_date t (λ s. ok (number_said s))
    on (Ok s) = unfold on_date amap in refl
    on (Err c) = unfold on_date amap in refl

pub epoch_says : (r : List ℕ) {x : Answer Fault ℕ} → x ≡ bind (fields epoch r) (λ d. on_date (date d) ok) → amap number_said x ≡ entry an_epoch r
unfolding entry fields
epoch_says r e = ap (amap number_said) e ∙ dates (fields epoch r)

judged_by : {P Q R S : Type 0} (p : Dec P) (q : Dec Q) (r : Dec R) (s : Dec S) (a : Axis)
    → judged_as (pick p (pick q (pick r (pick s (Ok tt) (Err Together)) (Err Step)) (Err Last)) (Err First)) a ≡ need p (fault 7 3) (need q (fault 7 9) (need r (fault 7 15) (need s (fault 7 0) (ok (along a)))))
unfolding pick need
judged_by (no p) q r s a = refl
judged_by (yes p) (no q) r s a = refl
judged_by (yes p) (yes q) (no r) s a = refl
judged_by (yes p) (yes q) (yes r) (no s) a = refl
judged_by (yes p) (yes q) (yes r) (yes s) a = refl

axis_meant : (l : Line) (v : ℤ × (ℤ × (ℤ × Unit {0}))) → judged_as (judged l (axis_of v.0 v.1.0 v.1.1.0)) (axis_of v.0 v.1.0 v.1.1.0) ≡ meant (axis l) v
unfolding judged meant
axis_meant l v = judged_by (end? l v.0) (end? l v.1.0) (step? l v.1.1.0) (together? l (axis_of v.0 v.1.0 v.1.1.0)) (axis_of v.0 v.1.0 v.1.1.0)

pub bind_same : {A B : Type 0} (x : Answer Fault A) (f g : A → Answer Fault B) → ((a : A) → f a ≡ g a) → bind x f ≡ bind x g
unfolding bind
bind_same (ok a) f g h = h a
bind_same (refused w) f g h = refl

pub axis_says : (l : Line) (r : List ℕ) → bind (axis_in r) (λ v. judged_as (judged l (axis_of v.0 v.1 v.2)) (axis_of v.0 v.1 v.2)) ≡ entry (axis l) r
unfolding axis_in entry
axis_says l r = bind_amap _ _ (scan 1 (items (axis l)) (take 60 r)) ∙ bind_same (scan 1 (items (axis l)) (take 60 r)) _ _ (axis_meant l)

-- a system's counts in their ranges
unfoldable pub counted_in : ℤ → ℤ → Answer Fault Said
counted_in a b = need (natural? 0 999999 a) (fault 7 7) (need (natural? 0 999999 b) (fault 7 13) (ok (counts (nat_abs a) (nat_abs b))))

pub system_says : (r : List ℕ) → bind (system_in r) (λ v. counted_in v.0 v.1) ≡ entry a_system r
unfolding system_in entry meant counted_in fields
system_says r = bind_amap _ _ _

-- ---- the records of texts

pub program_says : (line : List ℕ) → length line ≤ 80 → entry program (pad line) ≡ ok (words (columns line 0 20 ∷ columns line 20 20 ∷ columns line 40 20 ∷ []))
unfolding entry meant bind amap
program_says line fits = ap (λ x. bind x (meant program)) (read_is line fits (items program) (omega arith))

pub observables_says : (line : List ℕ) → length line ≤ 80 → entry observables (pad line) ≡ ok (words (columns line 0 60 ∷ []))
unfolding entry meant bind amap
observables_says line fits = ap (λ x. bind x (meant observables)) (read_is line fits (items observables) (omega arith))

mapping_by : (f : Option ℕ) (t : List ℕ) (g : Option ℕ) → bind (unless f (amap (λ vs. (t, vs)) (unless g (ok tt)))) (meant mapping) ≡ unless f (unless g (ok (words (t ∷ []))))
unfolding bind amap meant
mapping_by (Some c) t g = refl
mapping_by None t (Some c) = refl
mapping_by None t None = refl

pub mapping_says : (line : List ℕ) → length line ≤ 80 → unless (blank_to line 0 2) (unless (blank_to line 6 60) (ok (words (columns line 2 4 ∷ [])))) ≡ entry mapping (pad line)
unfolding entry blank_to
mapping_says line fits =
    sym (ap (λ x. bind x (meant mapping)) (read_is line fits (items mapping) (omega arith)) ∙ mapping_by (blank_to line 0 2) (columns line 2 4) (blank_to line 6 60))

-- ---- END OF HEADER

blank_by : {A : Type 0} (f : Option ℕ) (x : Answer Fault A) → bind (unless {A = Unit {0}} f (ok tt)) (λ v. x) ≡ unless f x
unfolding bind
blank_by (Some c) x = refl
blank_by None x = refl

pub blank_says : {A : Type 0} (line : List ℕ) (x : Answer Fault A) → length line ≤ 80 → bind (fields header_end (pad line)) (λ v. x) ≡ unless (blank_to line 0 60) x
unfolding fields blank_to
blank_says line x fits = ap (λ y. bind y (λ v. x)) (read_is line fits (X 60 ∷ []) (omega arith)) ∙ blank_by (blank_to line 0 60) x
