use Rattle.std.specs.Prelude.{Option, Some, None, Result, Ok, Err}
-- The fields of a value line, one after the other.
use mathlib.Core.Path.{◌≡◌, refl, sym, ap, ◌∙◌}
use mathlib.Core.Bool.{Bool, true, false}
use Prim.Native.Nat.{ℕ, zero, suc, ◌+◌, ◌-◌, ◌*◌, ◌≤◌, ◌<◌}
use native.Mathlib.Omega.{arith}
use native.Mathlib.Numerals.{add-one}
use native.Mathlib.Decide.{ℕ_discrete, dec_le}
use mathlib.Core.List.{List, [], ◌∷◌, ◌++◌, append_assoc, append-nil}
use lib.ListN.{length, take, drop, replicate, length-append, length-drop, length-take, set, length-set}
use lib.Seq.{drop-drop, drop-append-le, take-suc-set, take_all}
use lib.IntN.{ℤ}
use Rattle.kit.specs.Answer.{Answer, ok, refused, need, amap, All, all_dec}
use Rattle.kit.proofs.AnswerLaws.{need_no, amap_amap, amap_same}
use Rattle.kit.proofs.TruthLaws.{clash}
use Rattle.kit.proofs.ListLaws.{all_append, all_drop}
use Rattle.forms.specs.Form.{I}
use Rattle.forms.specs.Read.{read_field, is_number}
use Rattle.forms.specs.Columns.{Blank}
use Rattle.forms.proofs.ColumnLaws.{columns_padded}
use Rattle.fields.proofs.Lines as lines
use Rattle.layout.specs.Text.{pad}
use Rattle.reading.specs.Feed.{fault}
use Rattle.reading.specs.Fields.{number, blanks, blank, cells}
use Rattle.reading.proofs.RecordLaws.{blank_of, blank_spaces}
use Rattle.read_lines.specs.Lines.{passing, blank?}
use Rattle.read_values.specs.Values.{Okay, list_of, value_field, Judges, Passed}
use Rattle.reading.specs.declared.Fault.{Fault}
use Rattle.read_lines.proofs.Passing.{passing_le, passing_whole, passing_not, passing_append}

-- ---- a field

-- as the reading takes it
pub field_of : (l : List ℕ) (k : ℕ) → length l ≤ 80 → k < 16 → value_field l k ≡ read_field I (take 5 (drop (k * 5) (pad l)))
unfolding pad
field_of l k fits h = ap (read_field I) (columns_padded l (k * 5) 5 (omega arith) fits)

module _ (l : List ℕ) (k : ℕ) where
  pub field_short : length l < k * 5 + 5 → false ≡ is_number (value_field l k)
  field_short h = ap is_number (lines.short 0 l (k * 5) 5 h)

  pub field_whole : k * 5 + 5 ≤ length l → read_field I (take (k * 5 + 5 - k * 5) (drop (k * 5) l)) ≡ value_field l k
  field_whole h = lines.whole 0 l (k * 5) 5 h

  -- a field of the line, handed on as a part
  pub five : k * 5 + 5 ≤ length l → length (take (k * 5 + 5 - k * 5) (drop (k * 5) l)) ≤ 9
  five h = simp (length-take, length-drop) (omega arith)

some_number : (f : Option ℤ) → true ≡ is_number f → (z : ℤ) × (f ≡ Some z)
some_number (Some z) e = (z, refl)
some_number None e = clash (cc)

no_number : (f : Option ℤ) → false ≡ is_number f → f ≡ None
no_number (Some z) e = clash (cc)
no_number None e = refl

-- ---- the values

pub passed_none : (l : List ℕ) (m : ℕ) → Passed l m 0
passed_none l m = record { have = []; on = let e : m - 0 ≡ m = omega arith in rw e (sym (amap_same (λ zs. zs) (λ a. refl) _)) }

module _ (l : List ℕ) (m k : ℕ) (fits : length l ≤ 80) (most : m ≤ 16) (h : k < m) (p : Passed l m k) where
  step : cells (k * 5 + 1) (m - k) (drop (k * 5) (pad l))
      ≡ number (value_field l k) (k * 5 + 1) (λ z. amap (λ zs. z ∷ zs) (cells ((k + 1) * 5 + 1) (m - (k + 1)) (drop ((k + 1) * 5) (pad l))))
  unfolding cells
  step =
      let left : m - k ≡ suc (m - (k + 1)) = omega arith in
      let a : k * 5 + 1 + 5 ≡ (k + 1) * 5 + 1 = omega arith in
      let b : k * 5 + 5 ≡ (k + 1) * 5 = omega arith in
      rw left (rw (a, drop-drop, b, field_of l k fits (omega arith)))

  passed_with : (z : ℤ) → value_field l k ≡ Some z → Passed l m (k + 1)
  passed_with z e =
      let s : cells (k * 5 + 1) (m - k) (drop (k * 5) (pad l)) ≡ amap (λ zs. z ∷ zs) (cells ((k + 1) * 5 + 1) (m - (k + 1)) (drop ((k + 1) * 5) (pad l))) =
      step ∙ rw e (unfold number in refl) in
      record {
        have = p.have ++ (z ∷ []);
        on = p.on ∙ ap (amap (λ zs. p.have ++ zs)) s
            ∙ amap_amap (λ zs. p.have ++ zs) (λ zs. z ∷ zs) (λ zs. (p.have ++ (z ∷ [])) ++ zs) (λ zs. sym (append_assoc p.have (z ∷ []) zs)) _;
      }

  pub passed_more : true ≡ is_number (value_field l k) → Passed l m (k + 1)
  passed_more e = let z = some_number (value_field l k) e in passed_with z.0 z.1

  pub passed_wrong : false ≡ is_number (value_field l k) → cells 1 m (pad l) ≡ refused (fault 6 (k * 5 + 1))
  passed_wrong e =
      let b : cells (k * 5 + 1) (m - k) (drop (k * 5) (pad l)) ≡ refused (fault 6 (k * 5 + 1)) = step ∙ rw (no_number (value_field l k) e) (unfold number in refl) in
      p.on ∙ ap (amap (λ zs. p.have ++ zs)) b ∙ (unfold amap in refl)

-- what the rest says is what the line says
module _ (l : List ℕ) (m : ℕ) (p : Passed l m m) where
  whole_line : cells 1 m (pad l) ≡ amap (λ zs. p.have ++ zs) (cells (m * 5 + 1) 0 (drop (m * 5) (pad l)))
  whole_line = let none : m - m ≡ 0 = omega arith in p.on ∙ rw none

  pub judged : (r : Result (Unit {0}) Fault) → Judges r (cells (m * 5 + 1) 0 (drop (m * 5) (pad l))) → Judges r (cells 1 m (pad l))
  judged (Ok u) t = (p.have ++ t.0, whole_line ∙ ap (amap (λ zs. p.have ++ zs)) t.1 ∙ (unfold amap in refl))
  judged (Err f) t = whole_line ∙ ap (amap (λ zs. p.have ++ zs)) t ∙ (unfold amap in refl)

-- ---- the rest of the line

all_past : (l r : List ℕ) (k : ℕ) → length l ≤ k → All Blank r → All Blank (drop k (l ++ r))
all_past [] r k h a = all_drop Blank k r a
all_past (c ∷ l) r zero h a = absurd (omega arith)
all_past (c ∷ l) r (suc k) h a = all_past l r k (omega arith) a

blanks_passing : (l : List ℕ) → blanks l ≡ passing blank? l
unfolding blanks passing
blanks_passing [] = refl
blanks_passing (b ∷ l) = rw (blanks_passing l)

module _ (l : List ℕ) (m : ℕ) where
  all_ok : All Blank (drop (m * 5) (pad l)) → (zs : List ℤ) × (cells (m * 5 + 1) 0 (drop (m * 5) (pad l)) ≡ ok zs)
  unfolding cells
  all_ok a = ([], blank_of _ _ _ a)

  pub rest_none : length l ≤ m * 5 → (zs : List ℤ) × (cells (m * 5 + 1) 0 (drop (m * 5) (pad l)) ≡ ok zs)
  unfolding pad
  rest_none h = all_ok (all_past l (replicate (80 - length l) 32) (m * 5) h (blank_spaces (80 - length l)))

  module _ (b : ℕ) (is : b ≡ passing blank? (drop (m * 5) l)) (h : m * 5 < length l) where
    cut : drop (m * 5) (pad l) ≡ drop (m * 5) l ++ replicate (80 - length l) 32
    unfolding pad
    cut = drop-append-le (m * 5) l _ (omega arith)

    more : length (drop (m * 5) l) ≡ length l - m * 5
    more = length-drop (m * 5) l

    pub rest_le : b ≤ length l - m * 5
    rest_le = let s = more in let q = passing_le blank? (drop (m * 5) l) in omega arith

    pub rest_fine : length l ≤ m * 5 + b → (zs : List ℤ) × (cells (m * 5 + 1) 0 (drop (m * 5) (pad l)) ≡ ok zs)
    rest_fine a =
        let s = more in
        all_ok (rw cut (all_append Blank (drop (m * 5) l) _ (passing_whole blank? (drop (m * 5) l) (omega arith)) (blank_spaces (80 - length l))))

    pub rest_wrong : m * 5 + b < length l → cells (m * 5 + 1) 0 (drop (m * 5) (pad l)) ≡ refused (fault 6 (m * 5 + b + 1))
    unfolding cells blank
    rest_wrong lt =
        let s = more in
        let e : passing blank? (drop (m * 5) (pad l)) ≡ b = rw cut (passing_append blank? _ _ (omega arith)) ∙ sym is in
        let q : length (drop (m * 5) l) ≤ length (drop (m * 5) (pad l)) = rw cut (simp length-append (omega arith)) in
        let z : m * 5 + 1 + blanks (drop (m * 5) (pad l)) ≡ m * 5 + b + 1 = rw (blanks_passing (drop (m * 5) (pad l)), e) (omega arith) in
        need_no (all_dec (λ b. ℕ_discrete b 32) (drop (m * 5) (pad l))) _ _ (passing_not blank? (drop (m * 5) (pad l)) (omega arith)) ∙ rw z

-- ---- the second time over: the line is judged

is_number_lem : (f : Option ℤ) → (f ≡ None → ⊥) → true ≡ is_number f
is_number_lem (Some z) n = refl
is_number_lem None n = absurd (n refl)

not_okay : {W A : Type 0} {w : W} (x : Answer W A) → Okay x → x ≡ refused w → ⊥
not_okay (ok a) h e = clash (cc)
not_okay (refused w) h e = h

module _ (l : List ℕ) (m k : ℕ) (fits : length l ≤ 80) (most : m ≤ 16) (h : k < m) (p : Passed l m k) (fine : Okay (cells 1 m (pad l))) where
  pub okay_at : is_number (value_field l k) ≡ true
  okay_at = sym (is_number_lem (value_field l k) (λ e. not_okay _ fine (passed_wrong l m k fits most h p (rw e))))

  pub okay_room : k * 5 + 5 ≤ length l
  okay_room = by (dec_le (k * 5 + 5) (length l))
    where
      by : Dec (k * 5 + 5 ≤ length l) → k * 5 + 5 ≤ length l
      by (yes q) = q
      by (no q) = let z : ◌≡◌ {A = Bool} false true = field_short l k (omega arith) ∙ okay_at in clash (cc)

rest_nothing : (bs : List ℕ) (c : ℕ) → Okay (cells c 0 bs) → cells c 0 bs ≡ ok []
unfolding cells blank need
rest_nothing bs c h = by (all_dec (λ b. ℕ_discrete b 32) bs) h
  where
    by : {P : Type 0} (d : Dec P) → Okay {A = List ℤ} (need d (fault 6 (c + blanks bs)) (ok [])) → need {A = List ℤ} d (fault 6 (c + blanks bs)) (ok []) ≡ ok []
    by (yes p) h = refl
    by (no n) h = absurd h

amap_list : {W : Type 0} (f : List ℤ → List ℤ) (x : Answer W (List ℤ)) → Okay (amap f x) → (Okay x → x ≡ ok []) → list_of (amap f x) ≡ f []
unfolding amap
amap_list f (ok a) h g = let e = g tt in ap f (cc)
amap_list f (refused w) h g = absurd h

filled : (l : List ℕ) (m : ℕ) (p : Passed l m m) → Okay (cells 1 m (pad l)) → p.have ≡ list_of (cells 1 m (pad l))
filled l m p fine =
    let e = whole_line l m p in
    let f : Okay (amap (λ zs. p.have ++ zs) (cells (m * 5 + 1) 0 (drop (m * 5) (pad l)))) = rw e at fine in
    sym (append-nil p.have) ∙ sym (ap list_of e ∙ amap_list (λ zs. p.have ++ zs) _ f (rest_nothing _ (m * 5 + 1)))

-- the area: what is passed stands in its first elements
pub record Put (l : List ℕ) (m k : ℕ) (out : List ℤ) : Type 0 where
  pub passed : Passed l m k
  pub sized : length out ≡ m
  pub front : take k out ≡ passed.have

pub put_none : (l : List ℕ) (out : List ℤ) → Put l (length out) 0 out
unfolding passed_none
put_none l out = record { passed = passed_none l (length out); sized = refl; front = refl }

pub put_more : {l : List ℕ} {m k : ℕ} {out : List ℤ} → Put l m k out → length l ≤ 80 → m ≤ 16 → k < m → (z : ℤ) → value_field l k ≡ Some z → Put l m (k + 1) (set out k z)
unfolding passed_with
put_more {l} {m} {k} {out} u fits most h z e =
    let s = u.sized in
    let lt : k < length out = omega arith in
    record { passed = passed_with l m k fits most h u.passed z e; sized = length-set out k z ∙ s; front = rw add-one (take-suc-set out k z lt ∙ rw u.front) }

pub put_all : {l : List ℕ} {m k : ℕ} {out : List ℤ} → Put l m k out → k ≡ m → Okay (cells 1 m (pad l)) → out ≡ list_of (cells 1 m (pad l))
put_all {l} {m} {k} {out} u e fine =
    let v : Put l m m out = rw e at u in
    let s = v.sized in
    sym (take_all m out (omega arith)) ∙ v.front ∙ filled l m v.passed fine
