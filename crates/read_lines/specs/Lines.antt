-- The line that starts a part of a text, and what it hands on to the reading.
use Rattle.std.specs.Prelude.{◌≡◌, ℕ, suc, ◌≤◌, ◌<◌, List, [], ◌∷◌, length, take, drop, Result, Ok, Err}
use Rattle.std.proofs.Math.Decide.{ℕ_discrete, dec_le}
use Rattle.kit.specs.Answer.{All, pick, all_dec, ¬_dec}
use Rattle.kit.specs.Range.{Within, within?}
use Rattle.layout.specs.Text.{Clean, pad}
use Rattle.reading.specs.declared.Fault.{Fault}
use Rattle.reading.specs.Feed.{why, fault, split, over, bad, row, bad_column, feed}
use Rattle.read_lines.specs.Cuts.{Starts}
use Rattle.read_lines.specs.declared.Look.{Look}
use Rattle.read_lines.specs.declared.Look.TheVariants.{Blank, Full}
use Rattle.read_lines.specs.declared.Line.{Line}
use Rattle.read_lines.specs.declared.Line.TheVariants.{Over, Bad, Skip, Row}
use Rattle.read_lines.specs.declared.Span.{Span}

-- how many bytes stand in front of the first that does not pass
unfoldable pub passing : {P : ℕ → Type 0} → ((b : ℕ) → Dec (P b)) → List ℕ → ℕ
passing d [] = 0
passing d (b ∷ l) = pick (d b) (suc (passing d l)) 0

unfoldable pub not_lf? : (b : ℕ) → Dec (¬ (b ≡ 10))
not_lf? b = ¬_dec (ℕ_discrete b 10)

abbrev pub printable? : (b : ℕ) → Dec (Within 32 126 b)
printable? = within? 32 126

abbrev pub blank? : (b : ℕ) → Dec (b ≡ 32)
blank? b = ℕ_discrete b 32

-- what a line by itself shows
unfoldable pub look_of : List ℕ → Result Look Fault
look_of l =
    pick (dec_le (length l) 80)
    (pick (all_dec (within? 32 126) l) (pick (all_dec (λ b. ℕ_discrete b 32) l) (Ok Blank) (Ok Full)) (Err (fault 2 (bad_column l))))
    (Err (fault 1 81))

-- the first line of a text that is not empty, and where the next one starts
pub record Spans (t : List ℕ) (s : Span) : Type 0 where
  pub ahead : 0 < s.next
  pub within : s.next ≤ length t
  pub inside : s.width ≤ s.next
  pub lines : split t ≡ take s.width t ∷ split (drop s.next t)
  pub starts : Starts t s.width s.next

-- a blank line, which is skipped
pub record Skips (t : List ℕ) (next : ℕ) : Type 0 where
  pub ahead : 0 < next
  pub within : next ≤ length t
  pub width : ℕ
  pub clean : Clean (take width t)
  pub blank : All (λ b. b ≡ 32) (take width t)
  pub starts : Starts t width next
  pub on : (n : ℕ) → feed n (split t) ≡ feed (suc n) (split (drop next t))

-- a line of w bytes, which is handed on
pub record Rows (t : List ℕ) (w next : ℕ) : Type 0 where
  pub ahead : 0 < next
  pub within : next ≤ length t
  pub inside : w ≤ next
  pub fits : w ≤ 80
  pub clean : Clean (take w t)
  pub full : ¬ All (λ b. b ≡ 32) (take w t)
  pub starts : Starts t w next
  pub on : (n : ℕ) → feed n (split t) ≡ row n (pad (take w t)) (feed (suc n) (split (drop next t)))

-- `Stands t r`: r is the line that starts the text t, as the reading sees it
abbrev pub Stands : List ℕ → Line → Type 0
Stands t Over = (n : ℕ) → feed n (split t) ≡ over n
Stands t (Bad f) = (n : ℕ) → feed n (split t) ≡ bad (why f.number n f.column)
Stands t (Skip next) = Skips t next
Stands t (Row w next) = Rows t w next
