-- A row's label and fields: 01's refusals 4 and 6.
use Rattle.std.specs.Prelude.{ℕ, zero, suc, ◌+◌, ◌-◌, List, [], ◌∷◌, take, drop, ℤ, Option, Some, None}
use Rattle.std.proofs.Math.Option.{Option as Maybe, none, some}
use Rattle.std.proofs.Math.Decide.{ℕ_discrete}
use Rattle.kit.specs.Answer.{Answer, ok, refused, need, amap, pick, same, all_dec}
use Rattle.forms.specs.Form as form
use Rattle.forms.specs.Read.{read_field}
use Rattle.layout.specs.Records.{Item, I, F, D, X, A, U, Vals}
use Rattle.layout.specs.Labels.{Label, name, layout, labels}
use Rattle.reading.specs.declared.Fault.{Fault}
use Rattle.reading.specs.Feed.{fault}
use Rattle.forms.specs.Columns.{columns, further, first_not_blank}

-- columns 61 to 80, compared byte by byte
unfoldable pub lookup : List ℕ → List Label → Maybe Label
lookup s [] = none
lookup s (l ∷ ls) = pick (same s (name l)) (some l) (lookup s ls)

unfoldable pub label : List ℕ → Maybe Label
label r = lookup (drop 60 r) labels

-- go on with a field's number; ill-formed is 6 at the field's first column
unfoldable pub number : {A : Type 0} → Option ℤ → ℕ → (ℤ → Answer Fault A) → Answer Fault A
number (Some z) c f = f z
number None c f = refused (fault 6 c)

-- how many blanks stand in front
unfoldable pub blanks : List ℕ → ℕ
blanks [] = 0
blanks (b ∷ bs) = pick (ℕ_discrete b 32) (suc (blanks bs)) 0

-- columns that must be blank: 6 at the first that is not
unfoldable pub blank : {A : Type 0} → List ℕ → ℕ → Answer Fault A → Answer Fault A
blank bs c x = need (all_dec (λ b. ℕ_discrete b 32) bs) (fault 6 (c + blanks bs)) x

-- the values of the columns bs, the first of which is column c
unfoldable pub scan : (c : ℕ) (is : List Item) → List ℕ → Answer Fault (Vals is)
scan c [] bs = ok tt
scan c (I w ∷ is) bs = number (read_field form.I (take w bs)) c (λ z. amap (λ vs. (z, vs)) (scan (c + w) is (drop w bs)))
scan c (F w ∷ is) bs = number (read_field form.F1 (take w bs)) c (λ z. amap (λ vs. (z, vs)) (scan (c + w) is (drop w bs)))
scan c (D w ∷ is) bs = number (read_field form.F3 (take w bs)) c (λ z. amap (λ vs. (z, vs)) (scan (c + w) is (drop w bs)))
scan c (X w ∷ is) bs = blank (take w bs) c (scan (c + w) is (drop w bs))
scan c (A w ∷ is) bs = amap (λ vs. (take w bs, vs)) (scan (c + w) is (drop w bs))
scan c (U w ∷ is) bs = scan (c + w) is (drop w bs)

unfoldable pub fields : (l : Label) → List ℕ → Answer Fault (Vals (layout l))
fields l r = scan 1 (layout l) (take 60 r)

-- m values of a block's row from column c on, and then blanks
unfoldable pub cells : (c m : ℕ) → List ℕ → Answer Fault (List ℤ)
cells c zero bs = blank bs c (ok [])
cells c (suc m) bs = number (read_field form.I (take 5 bs)) c (λ z. amap (λ zs. z ∷ zs) (cells (c + 5) m (drop 5 bs)))

-- the first of the columns after the first a and up to e that is not blank
unfoldable pub blank_to : List ℕ → ℕ → ℕ → Option ℕ
blank_to line a e = further (a + 1) (first_not_blank (columns line a (e - a)))

-- 6 there, else x
abbrev pub unless : {A : Type 0} → Option ℕ → Answer Fault A → Answer Fault A
unless (Some c) x = refused (fault 6 c)
unless None x = x
