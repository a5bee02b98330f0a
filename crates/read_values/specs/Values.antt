-- The values on a line, and what the code says of them.
use Rattle.std.specs.Prelude.{◌≡◌, ℕ, ◌+◌, ◌-◌, ◌*◌, List, [], ◌++◌, drop, ℤ, Option, Result, Ok, Err}
use Rattle.kit.specs.Answer.{Answer, ok, refused, amap}
use Rattle.forms.specs.Form.{I}
use Rattle.forms.specs.Read.{read_field}
use Rattle.forms.specs.Columns.{columns}
use Rattle.layout.specs.Text.{pad}
use Rattle.reading.specs.declared.Fault.{Fault}
use Rattle.reading.specs.Fields.{cells}

-- the k-th five columns of a line, from 0
abbrev pub value_field : List ℕ → ℕ → Option ℤ
value_field l k = read_field I (columns l (k * 5) 5)

abbrev pub Judges : Result (Unit {0}) Fault → Answer Fault (List ℤ) → Type 0
Judges (Ok u) a = (zs : List ℤ) × (a ≡ ok zs)
Judges (Err f) a = a ≡ refused f

-- k of a line's m values are passed
pub record Passed (l : List ℕ) (m k : ℕ) : Type 0 where
  pub have : List ℤ
  pub on : cells 1 m (pad l) ≡ amap (λ zs. have ++ zs) (cells (k * 5 + 1) (m - k) (drop (k * 5) (pad l)))

abbrev pub Values : List ℕ → ℕ → Result (Unit {0}) Fault → Type 0
Values l m (Ok u) = Passed l m m
Values l m (Err f) = cells 1 m (pad l) ≡ refused f

-- ---- the second time over

abbrev pub Okay : {W A : Type 0} → Answer W A → Type 0
Okay (ok a) = Unit {0}
Okay (refused w) = ⊥

abbrev pub list_of : {W : Type 0} → Answer W (List ℤ) → List ℤ
list_of (ok zs) = zs
list_of (refused w) = []
