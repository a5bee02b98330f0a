-- Refusals, in 01's words; no state of a reader stands here. The lines of a text t are `split t` (`LineLaws.ended`: with their ends they are t).
use Rattle.std.specs.Prelude.{◌≡◌, ◌⊎◌, ℕ, suc, ◌+◌, ◌*◌, ◌-◌, ◌≤◌, ◌<◌, List, [], ◌∷◌, ◌++◌, length, take, replicate, get_or, Bool, false, ◌||◌, T, eqb}
use Rattle.kit.specs.Answer.{Answer, ok, refused, All}
use Rattle.kit.specs.Range.{Within, Printable}
use Rattle.forms.specs.Columns.{Blank}
use Rattle.mapset.specs.MapSet.{MapSet}
use Rattle.reading.specs.declared.Fault.{Fault}
use Rattle.reading.specs.declared.Why.{Why}
use Rattle.reading.specs.Feed.{split, bad_column, feed, fault}
use Rattle.reading.specs.Maps.{short}
use Rattle.reading.specs.Read.{begin, read}
use Rattle.layout.specs.Text.{Clean}
use Rattle.layout.specs.Records.{Item, I, F, D, X, A, U}
use Rattle.layout.specs.Labels.{Label, version, layout}

-- ---- 01's table of refusals: the columns of each number
abbrev pub among : ℕ → List ℕ → Bool
among c [] = false
among c (d ∷ ds) = eqb c d || among c ds

-- where 6 may stand in columns of a layout that start at column a: the first column of a number field, and each column that must be blank
abbrev pub Checks : ℕ → List Item → ℕ → Type 0
Checks a [] c = ⊥
Checks a (I w ∷ is) c = (c ≡ a) ⊎ Checks (a + w) is c
Checks a (F w ∷ is) c = (c ≡ a) ⊎ Checks (a + w) is c
Checks a (D w ∷ is) c = (c ≡ a) ⊎ Checks (a + w) is c
Checks a (X w ∷ is) c = ((a ≤ c) × (c < a + w)) ⊎ Checks (a + w) is c
Checks a (A w ∷ is) c = Checks (a + w) is c
Checks a (U w ∷ is) c = Checks (a + w) is c

-- a row of m values: fields of five columns, then blank columns up to 80
abbrev pub value_items : ℕ → List Item
value_items m = replicate m (I 5) ++ (X (80 - 5 * m) ∷ [])

-- after the version record: 4 and 5 at the label; 6 in the layout of a record, or in a row of 1 to 16 values; 7 and 8 at the first column of a field, or at 0; 9 at 0
pub data Later : Fault → Type 0 where
  four : Later (fault 4 61)
  five : Later (fault 5 61)
  six : {c : ℕ} (l : Label) → Checks 1 (layout l) c → Later (fault 6 c)
  six_value : {c : ℕ} (m : ℕ) → Within 1 16 m → Checks 1 (value_items m) c → Later (fault 6 c)
  seven : {c : ℕ} → T (among c (0 ∷ 1 ∷ 3 ∷ 6 ∷ 7 ∷ 9 ∷ 13 ∷ 15 ∷ 19 ∷ 25 ∷ 31 ∷ [])) → Later (fault 7 c)
  eight : {c : ℕ} → T (among c (0 ∷ 1 ∷ 3 ∷ 9 ∷ 15 ∷ 21 ∷ 27 ∷ [])) → Later (fault 8 c)
  nine : Later (fault 9 0)

-- of the version record: 3 at the label, the version, the type or the code; or 6 in its layout, so at column 1 or in columns 9 to 20
pub data First : Fault → Type 0 where
  three : {c : ℕ} → T (among c (61 ∷ 1 ∷ 21 ∷ 41 ∷ [])) → First (fault 3 c)
  six_first : {c : ℕ} → Checks 1 (layout version) c → First (fault 6 c)

-- 01's column of the number
abbrev pub Placed : Fault → Type 0
Placed f = First f ⊎ Later f

-- why a line is refused: over 80 bytes is 1 at column 81; a byte outside 32 to 126 is 2 at its column; else its row is, with 3 to 9 at the
-- columns that 01 gives them (`Blame`)
pub data Cause (l : List ℕ) (w : Why) : Type 0 where
  too_long : ¬ (length l ≤ 80) → w.number ≡ 1 → w.column ≡ 81 → Cause l w
  bad_byte : length l ≤ 80 → ¬ Printable l → w.number ≡ 2 → w.column ≡ bad_column l → Cause l w
  by_row : Clean l → ¬ All Blank l → Within 3 9 w.number → Placed (fault w.number w.column) → Cause l w

-- a text of these lines
unfoldable pub reads : List (List ℕ) → Answer Why MapSet
reads ls = begin (feed 1 ls)

-- lines without fault: accepted, or only cut short (10 at their number + 1)
abbrev pub Faultless : List (List ℕ) → Type 0
Faultless ls = (reads ls ≡ short (suc (length ls))) ⊎ ((m : MapSet) × (reads ls ≡ ok m))

-- a refusal at a line: the lines before it are without fault, and the lines up to it decide it
pub record AtLine (t : List ℕ) (w : Why) : Type 0 where
  pub before : ℕ
  pub line : w.line ≡ suc before
  pub inside : before < length (split t)
  pub faultless : Faultless (take before (split t))
  pub decided : (t' : List ℕ) → take (suc before) (split t') ≡ take (suc before) (split t) → read t' ≡ refused w
  -- 1 at column 81 for a line over 80 bytes, 2 at the first byte outside 32 to 126, else 3 to 9, each at a column that 01 gives it
  pub cause : Cause (get_or (split t) before []) w
  -- 3 for the first line that is not blank
  pub three : w.number ≡ 3 → All (All Blank) (take before (split t))

-- a text that ends before END OF FILE: so does every beginning of its lines, and 10 tells the number of lines + 1
pub record EndsEarly (t : List ℕ) (w : Why) : Type 0 where
  pub every : (k : ℕ) → k ≤ length (split t) → reads (take k (split t)) ≡ short (suc k)

-- ---- 1, 2 and 10, exactly

-- the column that 2 tells is that of the first byte outside 32 to 126
pub record FirstBad (l : List ℕ) : Type 0 where
  pub before : List ℕ
  pub byte : ℕ
  pub after : List ℕ
  pub whole : l ≡ before ++ byte ∷ after
  pub printable : Printable before
  pub outside : ¬ Within 32 126 byte
  pub column : bad_column l ≡ suc (length before)
