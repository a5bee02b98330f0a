use Rattle.std.specs.Prelude.{Option, Some, None, Result, Ok, Err}
-- A record by the columns of its line.
use mathlib.Core.Path.{◌≡◌, refl, sym, ap, ◌∙◌}
use mathlib.Core.List.{List, [], ◌∷◌}
use Prim.Native.Nat.{ℕ, ◌≤◌}
use native.Mathlib.Omega.{arith}
use lib.ListN.{length}
use lib.IntN.{ℤ}
use Rattle.kit.specs.Answer.{Answer, ok, refused, bind, amap}
use Rattle.forms.specs.Form as form
use Rattle.calendar.specs.Calendar.{dated}
use Rattle.forms.specs.Read.{read_field}
use Rattle.forms.specs.Columns.{columns}
use Rattle.forms.specs.Rows.{three_at, six_of, number_or}
use Rattle.layout.specs.Text.{pad}
use Rattle.layout.specs.Records.{X}
use Rattle.layout.specs.Labels.{exponent, epoch, block, file_end, layout}
use Rattle.layout.specs.Layout.{Date}
use Rattle.reading.specs.declared.Fault.{Fault}
use Rattle.reading.specs.Feed.{fault, answer_of}
use Rattle.reading.specs.Fields.{number, fields, blank_to, unless}
use Rattle.reading.specs.Maps.{date, on_date}
use Rattle.reading.proofs.ScanLaws.{read_is}
use Rattle.maps_records.specs.Records.{one_of, numbers_of}

-- ---- one number

pub one_is : (line : List ℕ) → length line ≤ 80 → fields exponent (pad line) ≡ one_of (read_field form.I (columns line 0 6)) (blank_to line 6 60)
unfolding fields blank_to
one_is line fits = read_is line fits (layout exponent) (omega arith)

-- ---- nothing but blanks

nothing_is : (line : List ℕ) → length line ≤ 80 → fields file_end (pad line) ≡ unless (blank_to line 0 60) (ok tt)
unfolding fields blank_to
nothing_is line fits = read_is line fits (X 60 ∷ []) (omega arith)

-- ---- a date

abbrev pub date_of : Result (ℤ × ℤ × ℤ × ℤ × ℤ × ℤ) ℕ → Option ℕ → Answer Fault ℕ
date_of (Err c) f = refused (fault 6 c)
date_of (Ok (y, m, d, h, i, s)) f = unless f (on_date (date (y, (m, (d, (h, (i, (s, tt))))))) ok)

date_by : (a b c d e g : Option ℤ) (f : Option ℕ)
    → bind (number a 1 (λ y. amap (λ vs. (y, vs)) (number b 7 (λ m. amap (λ vs. (m, vs)) (number c 13 (λ x. amap (λ vs. (x, vs)) (number d 19 (λ h. amap (λ vs. (h, vs)) (number e 25 (λ i. amap (λ vs. (i, vs)) (number g 31 (λ s. amap (λ vs. (s, vs)) (unless f (ok tt)))))))))))))) (λ (v : Date). on_date (date v) ok)
    ≡ date_of (number_or a (Err 1) (λ y. number_or b (Err 7) (λ m. number_or c (Err 13) (λ x. number_or d (Err 19) (λ h. number_or e (Err 25) (λ i. number_or g (Err 31) (λ s. Ok (y, m, x, h, i, s)))))))) f
unfolding bind amap number
date_by None b c d e g f = refl
date_by (Some y) None c d e g f = refl
date_by (Some y) (Some m) None d e g f = refl
date_by (Some y) (Some m) (Some x) None e g f = refl
date_by (Some y) (Some m) (Some x) (Some h) None g f = refl
date_by (Some y) (Some m) (Some x) (Some h) (Some i) None f = refl
date_by (Some y) (Some m) (Some x) (Some h) (Some i) (Some s) (Some n) = refl
date_by (Some y) (Some m) (Some x) (Some h) (Some i) (Some s) None = refl

pub date_is : (line : List ℕ) → length line ≤ 80 → bind (fields epoch (pad line)) (λ d. on_date (date d) ok) ≡ date_of (six_of line) (blank_to line 36 60)
unfolding fields blank_to six_of
date_is line fits =
    ap (λ (x : Answer Fault Date). bind x (λ d. on_date (date d) ok)) (read_is line fits (layout epoch) (omega arith))
    ∙ date_by (read_field form.I (columns line 0 6)) (read_field form.I (columns line 6 6)) (read_field form.I (columns line 12 6)) (read_field form.I (columns line 18 6)) (read_field form.I (columns line 24 6)) (read_field form.I (columns line 30 6)) (blank_to line 36 60)

-- ---- the five numbers that open a block

five_by : (f : Option ℕ) (x y z d e : Option ℤ) (g : Option ℕ)
    → unless f (number x 3 (λ a. amap (λ vs. (a, vs)) (number y 9 (λ b. amap (λ vs. (b, vs)) (number z 15 (λ c. amap (λ vs. (c, vs)) (number d 21 (λ u. amap (λ vs. (u, vs)) (number e 27 (λ v. amap (λ vs. (v, vs)) (unless g (ok tt))))))))))))
    ≡ unless f (numbers_of (number_or x (Err 3) (λ a. number_or y (Err 9) (λ b. number_or z (Err 15) (λ c. Ok (a, b, c))))) d e g)
unfolding amap number
five_by (Some c) x y z d e g = refl
five_by None None y z d e g = refl
five_by None (Some a) None z d e g = refl
five_by None (Some a) (Some b) None d e g = refl
five_by None (Some a) (Some b) (Some c) None e g = refl
five_by None (Some a) (Some b) (Some c) (Some u) None g = refl
five_by None (Some a) (Some b) (Some c) (Some u) (Some v) (Some n) = refl
five_by None (Some a) (Some b) (Some c) (Some u) (Some v) None = refl

opening_is : (line : List ℕ) → length line ≤ 80 → fields block (pad line)
    ≡ unless (blank_to line 0 2) (numbers_of (three_at form.F1 line 2) (read_field form.F1 (columns line 20 6)) (read_field form.F1 (columns line 26 6)) (blank_to line 32 60))
unfolding fields blank_to three_at
opening_is line fits =
    read_is line fits (layout block) (omega arith)
    ∙ five_by (blank_to line 0 2) (read_field form.F1 (columns line 2 6)) (read_field form.F1 (columns line 8 6)) (read_field form.F1 (columns line 14 6)) (read_field form.F1 (columns line 20 6)) (read_field form.F1 (columns line 26 6)) (blank_to line 32 60)

-- ---- what the code finds, one arm after the other

module _ (line : List ℕ) (fits : length line ≤ 80) where
  pub date_wrong : {c : ℕ} → six_of line ≡ Err c → refused (fault 6 c) ≡ bind (fields epoch (pad line)) (λ d. on_date (date d) ok)
  date_wrong e = sym (date_is line fits ∙ rw e)

  pub date_odd : {y m d h i s : ℤ} {c : ℕ} → six_of line ≡ Ok (y, m, d, h, i, s) → blank_to line 36 60 ≡ Some c
      → refused (fault 6 c) ≡ bind (fields epoch (pad line)) (λ d. on_date (date d) ok)
  date_odd e f = sym (date_is line fits ∙ rw (e, f))

  pub date_fine : {y m d h i s : ℤ} → six_of line ≡ Ok (y, m, d, h, i, s) → blank_to line 36 60 ≡ None
      → on_date (dated y m d h i s) ok ≡ bind (fields epoch (pad line)) (λ d. on_date (date d) ok)
  date_fine e f = sym (date_is line fits ∙ rw (e, f))

  pub opening_wrong : {c : ℕ} → blank_to line 0 2 ≡ Some c → refused (fault 6 c) ≡ fields block (pad line)
  opening_wrong e = sym (opening_is line fits ∙ rw e)

  pub opening_on : blank_to line 0 2 ≡ None
      → numbers_of (three_at form.F1 line 2) (read_field form.F1 (columns line 20 6)) (read_field form.F1 (columns line 26 6)) (blank_to line 32 60) ≡ fields block (pad line)
  opening_on e = sym (opening_is line fits ∙ rw e)

  pub nothing_wrong : {c : ℕ} → blank_to line 0 60 ≡ Some c → fields file_end (pad line) ≡ refused (fault 6 c)
  nothing_wrong e = nothing_is line fits ∙ rw e

  pub nothing_fine : blank_to line 0 60 ≡ None → fields file_end (pad line) ≡ ok tt
  nothing_fine e = nothing_is line fits ∙ rw e

-- ---- what must be blank, by what the code answers of it

pub blank_fine : (o : Option ℕ) (u : Unit {0}) (r : Result (Unit {0}) Fault) → answer_of r ≡ unless o (ok tt) → r ≡ Ok u → o ≡ None
blank_fine (Some c) u (Ok v) h e = cc
blank_fine (Some c) u (Err f) h e = cc
blank_fine None u r h e = refl

pub blank_wrong : (o : Option ℕ) (f : Fault) (r : Result (Unit {0}) Fault) → answer_of r ≡ unless o (ok tt) → r ≡ Err f → (c : ℕ) × ((o ≡ Some c) × (f ≡ fault 6 c))
blank_wrong (Some c) f (Ok v) h e = cc
blank_wrong (Some c) f (Err g) h e = (c, (refl, cc))
blank_wrong None f (Ok v) h e = cc
blank_wrong None f (Err g) h e = cc

-- ---- a number alone, and five

module _ {z : Option ℤ} {o : Option ℕ} where
  pub one_odd : {x : ℤ} {c : ℕ} → z ≡ Some x → o ≡ Some c → refused (fault 6 c) ≡ one_of z o
  unfolding number amap
  one_odd e f = rw (e, f)

  pub one_fine : {x : ℤ} → z ≡ Some x → o ≡ None → ok (x, tt) ≡ one_of z o
  unfolding number amap
  one_fine e f = rw (e, f)

module _ (t : Result (ℤ × ℤ × ℤ) ℕ) (d e : Option ℤ) (o : Option ℕ) {x y z : ℤ} (three : t ≡ Ok (x, y, z)) where
  pub five_no_step : d ≡ None → refused (fault 6 21) ≡ numbers_of t d e o
  unfolding number
  five_no_step a = rw (three, a)

  pub five_no_height : {u : ℤ} → d ≡ Some u → e ≡ None → refused (fault 6 27) ≡ numbers_of t d e o
  unfolding number
  five_no_height a b = rw (three, a, b)

  pub five_odd : {u v : ℤ} {c : ℕ} → d ≡ Some u → e ≡ Some v → o ≡ Some c → refused (fault 6 c) ≡ numbers_of t d e o
  unfolding number
  five_odd a b f = rw (three, a, b, f)

  pub five_fine : {u v : ℤ} → d ≡ Some u → e ≡ Some v → o ≡ None → ok (x, (y, (z, (u, (v, tt))))) ≡ numbers_of t d e o
  unfolding number
  five_fine a b f = rw (three, a, b, f)
