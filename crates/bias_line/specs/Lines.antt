-- What the code answers of a line, and the fields that it looks at.
use Rattle.std.specs.Prelude.{List, ℕ, ◌+◌, ℤ, Option}
use Rattle.kit.specs.Answer.{Answer, ok}
use Rattle.forms.specs.Form as form
use Rattle.forms.specs.Read.{read_field}
use Rattle.forms.specs.Columns.{columns}
use Rattle.reading.specs.declared.Fault.{Fault}
use Rattle.reading.specs.Fields.{number, unless, blank_to}

-- two fields, of which the first starts after a columns, and the first column behind them that is not blank
unfoldable pub pair_in : Option ℤ → Option ℤ → ℕ → Option ℕ → Answer Fault (ℤ × ℤ)
pair_in f g a h = number f (a + 1) (λ x. number g (a + 11) (λ y. unless h (ok (x, y))))

unfoldable pub pair_after : List ℕ → ℕ → Answer Fault (ℤ × ℤ)
pair_after line a = pair_in (read_field form.F3 (columns line a 10)) (read_field form.F3 (columns line (a + 10) 10)) a (blank_to line (a + 20) 60)
