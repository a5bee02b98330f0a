use Rattle.std.specs.Prelude.{Option, Some, None, Result, Ok, Err}
-- Six fields in a row are three and three.
use mathlib.Core.Path.{◌≡◌, refl, ◌∙◌}
use mathlib.Core.List.{List}
use Prim.Native.Nat.{ℕ}
use lib.IntN.{ℤ}
use Rattle.forms.specs.Form.{I}
use Rattle.forms.specs.Read.{read_field}
use Rattle.forms.specs.Columns.{columns}
use Rattle.forms.specs.Rows.{number_or, three_at, six_of}

-- go on with the three numbers, or with their wrong column
abbrev three_or : Result (ℤ × ℤ × ℤ) ℕ → (ℤ → ℤ → ℤ → Result (ℤ × ℤ × ℤ × ℤ × ℤ × ℤ) ℕ) → Result (ℤ × ℤ × ℤ × ℤ × ℤ × ℤ) ℕ
three_or (Ok (a, b, c)) k = k a b c
three_or (Err column) k = Err column

chain : (f g h : Option ℤ) (i j l : ℕ) (k : ℤ → ℤ → ℤ → Result (ℤ × ℤ × ℤ × ℤ × ℤ × ℤ) ℕ)
    → number_or f (Err i) (λ a. number_or g (Err j) (λ b. number_or h (Err l) (λ c. k a b c)))
    ≡ three_or (number_or f (Err i) (λ a. number_or g (Err j) (λ b. number_or h (Err l) (λ c. Ok (a, b, c))))) k
chain None g h i j l k = refl
chain (Some a) None h i j l k = refl
chain (Some a) (Some b) None i j l k = refl
chain (Some a) (Some b) (Some c) i j l k = refl

module _ (line : List ℕ) where
  six_threes : six_of line ≡ three_or (three_at I line 0) (λ a b c. three_or (three_at I line 18) (λ d e f. Ok (a, b, c, d, e, f)))
  unfolding six_of three_at
  six_threes =
      let field : ℕ → Option ℤ = λ a. read_field I (columns line a 6) in
      chain (field 0) (field 6) (field 12) 1 7 13 _
      ∙ (λ i. three_or (three_at I line 0) (λ a b c. chain (field 18) (field 24) (field 30) 19 25 31 (λ d e f. Ok (a, b, c, d, e, f)) i))

  module _ {a b c : ℤ} (l : three_at I line 0 ≡ Ok (a, b, c)) where
    pub six_is : {d e f : ℤ} → three_at I line 18 ≡ Ok (d, e, f) → Ok (a, b, c, d, e, f) ≡ six_of line
    six_is r = rw (six_threes, l, r)

    pub six_right : {column : ℕ} → three_at I line 18 ≡ Err column → Err column ≡ six_of line
    six_right r = rw (six_threes, l, r)

  pub six_left : {column : ℕ} → three_at I line 0 ≡ Err column → Err column ≡ six_of line
  six_left l = rw (six_threes, l)
