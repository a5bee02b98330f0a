-- The lines of a text, and the rows that they hand on: 01's refusals 1 and 2, and blank lines.
use Rattle.std.specs.Prelude.{◌≡◌, ℕ, suc, List, [], ◌∷◌, length, Result, Ok, Err}
use Rattle.std.proofs.Math.Decide.{ℕ_discrete, dec_le}
use Rattle.kit.specs.Answer.{Answer, ok, refused, pick, ×_dec, all_dec}
use Rattle.kit.specs.Range.{within?}
use Rattle.layout.specs.Text.{pad}
-- a refusal of one line: 01's number, and the column; and with its line, of a text
use Rattle.reading.specs.declared.Fault.{Fault}
use Rattle.reading.specs.declared.Why.{Why}

abbrev pub why : ℕ → ℕ → ℕ → Why
why k n c = record { number = k; line = n; column = c }

abbrev pub fault : ℕ → ℕ → Fault
fault k c = record { number = k; column = c }

-- what the code answers, as the definitions have it
abbrev pub answer_of : {W A : Type 0} → Result A W → Answer W A
answer_of (Ok a) = ok a
answer_of (Err w) = refused w

unfoldable pub on_line : {A : Type 0} → ℕ → Answer Fault A → Answer Why A
on_line n (ok a) = ok a
on_line n (refused f) = refused (why f.number n f.column)

-- ---- lines: LF ends one, and a CR directly before that LF is dropped

-- a byte before the lines of what follows it
unfoldable pub front : ℕ → List (List ℕ) → List (List ℕ)
front b [] = (b ∷ []) ∷ []
front b (l ∷ ls) = (b ∷ l) ∷ ls

abbrev pub LineOpens : ℕ → List ℕ → Type 0
LineOpens b [] = ⊥
LineOpens b (c ∷ t) = c ≡ b

unfoldable pub opens? : (b : ℕ) (t : List ℕ) → Dec (LineOpens b t)
opens? b [] = no (λ h. h)
opens? b (c ∷ t) = ℕ_discrete c b

unfoldable pub split : List ℕ → List (List ℕ)
split [] = []
split (b ∷ t) = pick (ℕ_discrete b 10) ([] ∷ split t) (pick (×_dec (ℕ_discrete b 13) (opens? 10 t)) (split t) (front b (split t)))

-- ---- rows

-- what the lines hand on, one after the other: a row with its line's number, a refusal, or the text's end with the number of its lines + 1
pub data Feed : Type 0 where
  over : ℕ → Feed
  bad : Why → Feed
  row : ℕ → List ℕ → Feed → Feed

-- the text is over, or its next line is refused
abbrev pub NoRow : Feed → Type 0
NoRow (over n) = Unit {0}
NoRow (bad w) = Unit {0}
NoRow (row n r f) = ⊥

-- the column of the first byte that is not printable
unfoldable pub bad_column : List ℕ → ℕ
bad_column [] = 1
bad_column (b ∷ l) = pick (within? 32 126 b) (suc (bad_column l)) 1

-- 1 for a line over 80 bytes, then 2 for a byte outside 32 to 126; blank lines are skipped
unfoldable pub feed : ℕ → List (List ℕ) → Feed
feed n [] = over n
feed n (l ∷ ls) =
    pick (dec_le (length l) 80)
    (pick (all_dec (within? 32 126) l)
    (pick (all_dec (λ b. ℕ_discrete b 32) l) (feed (suc n) ls) (row n (pad l) (feed (suc n) ls)))
    (bad (why 2 n (bad_column l))))
    (bad (why 1 n 81))
