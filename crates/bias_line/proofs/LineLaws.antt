-- What a line is and says, by what the code looks at.
use Rattle.std.specs.Prelude.{Option, Some, None}
use Rattle.std.specs.Option.{ok_or}
use mathlib.Core.Path.{◌≡◌, refl, sym, ap, ◌∙◌}
use mathlib.Core.Logic.{◌⊎◌, inl, inr}
use mathlib.Core.List.{List, [], ◌∷◌}
use Prim.Native.Nat.{ℕ, ◌+◌, ◌≤◌}
use native.Mathlib.Omega.{arith}
use lib.ListN.{length, take, drop}
use lib.IntN.{ℤ}
use Rattle.kit.specs.Answer.{Answer, ok, refused, bind, amap, same}
use Rattle.kit.proofs.AnswerLaws.{need_yes, need_no, pick_yes, pick_no}
use Rattle.kit.specs.Truth.{truth}
use Rattle.kit.proofs.TruthLaws.{tells}
use Rattle.forms.specs.Form as form
use Rattle.forms.specs.Read.{read_field}
use Rattle.forms.specs.Columns.{columns}
use Rattle.forms.proofs.ColumnLaws.{columns_padded}
use Rattle.layout.specs.Text.{pad}
use Rattle.layout.specs.Names.{holds}
use Rattle.reading.specs.declared.Fault.{Fault}
use Rattle.reading.specs.Feed.{fault, answer_of}
use Rattle.reading.specs.Fields.{number, unless, blank_to}
use Rattle.reading.proofs.LabelLaws.{held, holding, label_columns}
use Rattle.biases.specs.Read.{system_of, satellite_meant, station_meant, satellite_of, station_of}
use Rattle.biases.proofs.Fine.{satellite_columns, station_columns}
use Rattle.bias_line.specs.Lines.{pair_in, pair_after}

-- ---- columns that hold a name

held_columns : (line : List ℕ) (a : ℕ) (n : List ℕ) → holds line a n ≡ truth (same (columns line a (length n)) n)
held_columns line a n =
    tells (holds line a n) (same (columns line a (length n)) n) (holding line a n)
    (λ e f. let t = held line a n f in let z : ◌≡◌ {A = ℕ} 0 1 = cc in omega arith)

module _ (line : List ℕ) (fits : length line ≤ 80) where
  pub label_held : (n : List ℕ) → length n ≡ 20 → holds line 60 n ≡ truth (same (drop 60 (pad line)) n)
  label_held n e = held_columns line 60 n ∙ rw (e, label_columns line fits)

  pub title_held : (n : List ℕ) → length n ≡ 60 → holds line 0 n ≡ truth (same (take 60 (pad line)) n)
  unfolding pad
  title_held n e = held_columns line 0 n ∙ rw (e, columns_padded line 0 60 (omega arith) fits)

-- ---- the letter

one_byte : {b c : ℕ} → ¬ (b ≡ c) → ¬ (b ∷ [] ≡ c ∷ [])
one_byte n e = n (cc)

pub letter_g : (b : ℕ) → (b ≡ 71) ⊎ (b ≡ 32) → ok 71 ≡ system_of (b ∷ [])
unfolding system_of
letter_g b (inl e) = sym (pick_yes (same (b ∷ []) (71 ∷ [])) _ _ (ap (λ x. x ∷ []) e))
letter_g b (inr e) =
    sym (pick_no (same (b ∷ []) (71 ∷ [])) _ _ (one_byte (λ f. omega arith)) ∙ pick_yes (same (b ∷ []) (32 ∷ [])) _ _ (ap (λ x. x ∷ []) e))

pub letter_r : (b : ℕ) → b ≡ 82 → ok 82 ≡ system_of (b ∷ [])
unfolding system_of
letter_r b e =
    sym (pick_no (same (b ∷ []) (71 ∷ [])) _ _ (one_byte (λ f. omega arith))
    ∙ pick_no (same (b ∷ []) (32 ∷ [])) _ _ (one_byte (λ f. omega arith))
    ∙ need_yes (same (b ∷ []) (82 ∷ [])) _ _ (ap (λ x. x ∷ []) e))

pub letter_none : (b : ℕ) → ¬ (b ≡ 71) → ¬ (b ≡ 32) → ¬ (b ≡ 82) → refused (fault 7 4) ≡ system_of (b ∷ [])
unfolding system_of
letter_none b p q r =
    sym (pick_no (same (b ∷ []) (71 ∷ [])) _ _ (one_byte p)
    ∙ pick_no (same (b ∷ []) (32 ∷ [])) _ _ (one_byte q)
    ∙ need_no (same (b ∷ []) (82 ∷ [])) _ _ (one_byte r))

-- ---- one step of a record after another

pub number_ok_or : (f : Option ℤ) (c : ℕ) → answer_of (ok_or f (fault 6 c)) ≡ number f c ok
unfolding number
number_ok_or (Some x) c = refl
number_ok_or None c = refl

pub number_binds : {A : Type 0} (f : Option ℤ) (c : ℕ) (k : ℤ → Answer Fault A) → number f c k ≡ bind (number f c ok) k
unfolding number bind
number_binds (Some x) c k = refl
number_binds None c k = refl

pub unless_binds : {A : Type 0} (h : Option ℕ) (x : Answer Fault A) → unless h x ≡ bind {B = Unit {0}} (unless h (ok tt)) (λ u. x)
unfolding bind
unless_binds (Some c) x = refl
unless_binds None x = refl

-- ---- the records

pair_by : {A : Type 0} (f g : Option ℤ) (a : ℕ) (h : Option ℕ) (k : ℤ → ℤ → Answer Fault A)
    → bind {B = ℤ × (ℤ × Unit {0})} (number f (a + 1) (λ x. amap (λ vs. (x, vs)) (number g (a + 11) (λ y. amap (λ vs. (y, vs)) (unless h (ok tt)))))) (λ v. k v.0 v.1.0)
    ≡ bind (pair_in f g a h) (λ p. k p.0 p.1)
unfolding bind amap number pair_in
pair_by (Some x) (Some y) a (Some c) k = refl
pair_by (Some x) (Some y) a None k = refl
pair_by (Some x) None a h k = refl
pair_by None g a h k = refl

satellite_by : {A : Type 0} (h : Option ℕ) (t : List ℕ) (i : Option ℤ) (x : Answer Fault (ℤ × (ℤ × Unit {0}))) (k : List ℕ × (ℤ × (ℤ × (ℤ × Unit {0}))) → Answer Fault A)
    → bind (unless h (amap (λ vs. (t, vs)) (number i 5 (λ z. amap (λ vs. (z, vs)) x)))) k ≡ unless h (number i 5 (λ z. bind x (λ v. k (t, (z, v)))))
unfolding bind amap number
satellite_by (Some c) t i x k = refl
satellite_by None t (Some z) (ok v) k = refl
satellite_by None t (Some z) (refused w) k = refl
satellite_by None t None x k = refl

station_by : {A : Type 0} (h g : Option ℕ) (t n : List ℕ) (x : Answer Fault (ℤ × (ℤ × Unit {0}))) (k : List ℕ × (List ℕ × (ℤ × (ℤ × Unit {0}))) → Answer Fault A)
    → bind (unless h (amap (λ vs. (t, vs)) (unless g (amap (λ vs. (n, vs)) x)))) k ≡ unless h (unless g (bind x (λ v. k (t, (n, v)))))
unfolding bind amap
station_by (Some c) g t n x k = refl
station_by None (Some c) t n x k = refl
station_by None None t n (ok v) k = refl
station_by None None t n (refused w) k = refl

module _ (line : List ℕ) (fits : length line ≤ 80) where
  pub satellite_is : satellite_of (pad line)
      ≡ unless (blank_to line 0 3) (number (read_field form.I (columns line 4 2)) 5 (λ k. bind (pair_after line 6) (λ p. satellite_meant (columns line 3 1, (k, (p.0, (p.1, tt)))))))
  unfolding blank_to pair_after
  satellite_is =
      satellite_columns line fits
      ∙ satellite_by (blank_to line 0 3) (columns line 3 1) (read_field form.I (columns line 4 2)) _ satellite_meant
      ∙ ap (λ (f : ℤ → Answer Fault _). unless (blank_to line 0 3) (number (read_field form.I (columns line 4 2)) 5 f))
      (λ i k. pair_by (read_field form.F3 (columns line 6 10)) (read_field form.F3 (columns line 16 10)) 6 (blank_to line 26 60) (λ x y. satellite_meant (columns line 3 1, (k, (x, (y, tt))))) i)

  pub station_is : station_of (pad line)
      ≡ unless (blank_to line 0 3) (unless (blank_to line 4 6) (bind (pair_after line 26) (λ p. station_meant (columns line 3 1, (columns line 6 20, (p.0, (p.1, tt)))))))
  unfolding blank_to pair_after
  station_is =
      station_columns line fits
      ∙ station_by (blank_to line 0 3) (blank_to line 4 6) (columns line 3 1) (columns line 6 20) _ station_meant
      ∙ ap (λ (x : Answer Fault _). unless (blank_to line 0 3) (unless (blank_to line 4 6) x))
      (pair_by (read_field form.F3 (columns line 26 10)) (read_field form.F3 (columns line 36 10)) 26 (blank_to line 46 60) (λ x y. station_meant (columns line 3 1, (columns line 6 20, (x, (y, tt))))))
