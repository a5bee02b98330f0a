-- 01, 'Lines and fields': a text, its lines, and the rows that the lines show.
use Rattle.std.specs.Prelude.{ℕ, ◌-◌, ◌≤◌, List, [], ◌∷◌, ◌++◌, length, replicate}
use Rattle.kit.specs.Answer.{All}
use Rattle.kit.specs.Range.{Printable}
use Rattle.forms.specs.Columns.{Blank}

-- `Ended ls t`: the text t has the lines ls, each ended by LF or CR LF; a last line may have no end if it has a byte
pub data Ended : List (List ℕ) → List ℕ → Type 0 where
  none : Ended [] []
  last : {b : ℕ} {l : List ℕ} → Ended ((b ∷ l) ∷ []) (b ∷ l)
  lf : {l : List ℕ} {ls : List (List ℕ)} {t : List ℕ} → Ended ls t → Ended (l ∷ ls) (l ++ 10 ∷ t)
  crlf : {l : List ℕ} {ls : List (List ℕ)} {t : List ℕ} → Ended ls t → Ended (l ∷ ls) (l ++ 13 ∷ 10 ∷ t)

-- at most 80 bytes, each from 32 to 126
abbrev pub Clean : List ℕ → Type 0
Clean l = (length l ≤ 80) × Printable l

-- a line may stop early: missing columns are blanks
unfoldable pub pad : List ℕ → List ℕ
pad l = l ++ replicate (80 - length l) 32

-- `Laid rs ls`: the lines ls show the rows rs of 80 columns; a blank line is skipped everywhere
pub data Laid : List (List ℕ) → List (List ℕ) → Type 0 where
  none : Laid [] []
  blank : {l : List ℕ} {rs ls : List (List ℕ)} → Clean l → All Blank l → Laid rs ls → Laid rs (l ∷ ls)
  line : {l : List ℕ} {rs ls : List (List ℕ)} → Clean l → ¬ All Blank l → Laid rs ls → Laid (pad l ∷ rs) (l ∷ ls)
