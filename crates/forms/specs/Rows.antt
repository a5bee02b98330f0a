-- Number fields of six columns, one after another: the numbers, or the first column of the first wrong field.
use Rattle.std.specs.Prelude.{ℕ, ◌+◌, List, ℤ, Option, Some, None, Result, Ok, Err}
use Rattle.forms.specs.Form.{Form, I}
use Rattle.forms.specs.Read.{read_field}
use Rattle.forms.specs.Columns.{columns}

-- go on with the number, or refuse
abbrev pub number_or : {A : Type 0} → Option ℤ → A → (ℤ → A) → A
number_or (Some z) refusal f = f z
number_or None refusal f = refusal

unfoldable pub three_at : Form → List ℕ → ℕ → Result (ℤ × ℤ × ℤ) ℕ
three_at fm line a =
    number_or (read_field fm (columns line a 6)) (Err (a + 1)) (λ x.
    number_or (read_field fm (columns line (a + 6) 6)) (Err (a + 7)) (λ y.
    number_or (read_field fm (columns line (a + 12) 6)) (Err (a + 13)) (λ z.
    Ok (x, y, z))))

unfoldable pub six_of : List ℕ → Result (ℤ × ℤ × ℤ × ℤ × ℤ × ℤ) ℕ
six_of line =
    number_or (read_field I (columns line 0 6)) (Err 1) (λ a.
    number_or (read_field I (columns line 6 6)) (Err 7) (λ b.
    number_or (read_field I (columns line 12 6)) (Err 13) (λ c.
    number_or (read_field I (columns line 18 6)) (Err 19) (λ d.
    number_or (read_field I (columns line 24 6)) (Err 25) (λ e.
    number_or (read_field I (columns line 30 6)) (Err 31) (λ f.
    Ok (a, b, c, d, e, f)))))))
