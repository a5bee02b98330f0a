use Rattle.std.specs.Prelude.{Option, Some, None}
-- The version record by what the code looks at.
use mathlib.Core.Path.{◌≡◌, refl, sym, ap, ◌∙◌}
use mathlib.Core.Option.{none, some}
use mathlib.Core.List.{List, [], ◌∷◌}
use Prim.Native.Nat.{ℕ, zero, suc, ◌≤◌, ◌<◌}
use native.Mathlib.Omega.{arith}
use lib.ListN.{length, get_or, drop}
use lib.IntN.{ℤ}
use Rattle.kit.specs.Answer.{Answer, ok, refused, bind, amap, same}
use Rattle.kit.proofs.AnswerLaws.{need_yes, need_no, pick_yes, pick_no}
use Rattle.forms.specs.Form as form
use Rattle.forms.specs.Read.{read_field}
use Rattle.forms.specs.Columns.{columns}
use Rattle.forms.proofs.ColumnLaws.{one_column}
use Rattle.layout.specs.Text.{pad}
use Rattle.layout.specs.Labels.{version, name, layout}
use Rattle.layout.specs.Names.{names, number_of}
use Rattle.reading.specs.declared.Fault.{Fault}
use Rattle.reading.specs.Feed.{fault}
use Rattle.reading.specs.Fields.{number, fields, unless, blank_to}
use Rattle.reading.proofs.LabelLaws.{named, version_number}
use Rattle.reading.specs.Head.{place, next}
use Rattle.reading.specs.Read.{versioned, version_of}
use Rattle.reading.proofs.ScanLaws.{read_is}
use Rattle.maps_records.specs.Records.{one_of}
use Rattle.head_said.specs.Records.{version_in}
use Rattle.head_said.proofs.RecordLaws.{version_is}

-- ---- the type, in column 21

pub type_yes : (line : List ℕ) → get_or line 20 32 ≡ 73 → columns line 20 1 ≡ 73 ∷ []
type_yes line e = one_column line 20 ∙ ap (λ (b : ℕ). b ∷ []) e

pub type_no : (line : List ℕ) → ¬ (get_or line 20 32 ≡ 73) → ¬ (columns line 20 1 ≡ 73 ∷ [])
type_no line n e = let f : get_or line 20 32 ∷ [] ≡ 73 ∷ [] = sym (one_column line 20) ∙ e in n (cc)

-- ---- the code

module _ (u : List ℕ) where
  pub place_here : (ns : List (List ℕ)) (i : ℕ) → i < length ns → get_or ns i [] ≡ u → ((j : ℕ) → j < i → ¬ (get_or ns j [] ≡ u)) → place same u ns ≡ some i
  unfolding place
  place_here [] i h e n = absurd (omega arith)
  place_here (x ∷ ns) zero h e n = pick_yes (same u x) (some 0) (next (place same u ns)) (sym e)
  place_here (x ∷ ns) (suc i) h e n =
      pick_no (same u x) (some 0) (next (place same u ns)) (λ q. n 0 (omega arith) (sym q))
      ∙ ap next (place_here ns i (omega arith) e (λ j l. n (suc j) (omega arith)))

  pub place_nowhere : (ns : List (List ℕ)) → ((j : ℕ) → j < length ns → ¬ (get_or ns j [] ≡ u)) → place same u ns ≡ none
  unfolding place
  place_nowhere [] n = refl
  place_nowhere (x ∷ ns) n =
      pick_no (same u x) (some 0) (next (place same u ns)) (λ q. n 0 (omega arith) (sym q)) ∙ ap next (place_nowhere ns (λ j l. n (suc j) (omega arith)))

-- ---- the record

version_by : {A : Type 0} (z : Option ℤ) (f : Option ℕ) (t u : List ℕ) (k : ℤ → List ℕ → List ℕ → Answer Fault A)
    → bind {B = ℤ × (List ℕ × (List ℕ × Unit {0}))} (number z 1 (λ x. amap (λ vs. (x, vs)) (unless {A = List ℕ × (List ℕ × Unit {0})} f (amap (λ vs. (t, vs)) (amap (λ vs. (u, vs)) (ok tt)))))) (λ v. k v.0 v.1.0 v.1.1.0)
    ≡ bind (one_of z f) (λ v. k v.0 t u)
unfolding bind amap number
version_by (Some z) (Some c) t u k = refl
version_by (Some z) None t u k = refl
version_by None f t u k = refl

module _ (line : List ℕ) (fits : length line ≤ 80) where
  pub not_version : ¬ (number_of line ≡ 0) → version_of (pad line) ≡ refused (fault 3 61)
  unfolding version_of
  not_version n = need_no (same (drop 60 (pad line)) (name version)) (fault 3 61) _ (λ e. n (version_number line fits e))

  pub is_version : number_of line ≡ 0 → version_of (pad line) ≡ bind (version_in (pad line)) (λ v. versioned v.0 (columns line 20 1) (columns line 40 3))
  unfolding version_of fields blank_to
  is_version e =
      let n : drop 60 (pad line) ≡ name version = named line fits (omega arith) ∙ (unfold names in rw e refl) in
      need_yes (same (drop 60 (pad line)) (name version)) (fault 3 61) _ n
      ∙ ap (λ x. bind x (λ v. versioned v.0 v.1.0 v.1.1.0)) (read_is line fits (layout version) (omega arith))
      ∙ version_by (read_field form.F1 (columns line 0 8)) (blank_to line 8 20) (columns line 20 1) (columns line 40 3) versioned
      ∙ ap (λ x. bind x (λ v. versioned v.0 (columns line 20 1) (columns line 40 3))) (sym (version_is line fits))
