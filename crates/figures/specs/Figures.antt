-- 01, 'Figures to check by': the lines marked P, as rows of one table. `FiguresRight` has that each is right.
use Rattle.std.specs.Prelude.{List, [], ◌∷◌, ℕ, ℤ, pos, negsuc, replicate}
use Rattle.calendar.specs.Calendar.{Dated}
use Rattle.forms.specs.Form.{I, Spells}
use Rattle.mapset.specs.Areas.{six}
use Rattle.mapset.specs.MapSet.{MapSet}
use Rattle.layout.specs.Text.{pad}
use Rattle.layout.specs.Records.{ValueRows}
use Rattle.layout.specs.Labels.{bytes}
use Rattle.layout.specs.Layout.{Makes}
use Rattle.ask.specs.Ask.{Question, question, Told, tecu, Answers}
use Rattle.ask.specs.Sample.{header, texts}

-- a row of the table
pub data Figure : Type 0 where
  -- year, month, day at 00:00:00 is a second from 1900; is a date; is none
  is_second : ℕ → ℕ → ℕ → ℕ → Figure
  is_date no_date : ℕ → ℕ → ℕ → Figure
  -- an I5 field is a number; is none
  is_number : List ℕ → ℤ → Figure
  no_number : List ℕ → Figure
  -- the text rules make the line from these values of a row of nodes; make the text from no map set
  is_line : List ℕ → List ℤ → Figure
  no_text : List ℕ → Figure
  -- a question has the answer
  is_answer : Question → Told → Figure

-- one map of 2 by 2 nodes, 1 degree apart, with the numbers a, b over c, d under the exponent k: TEC at a place
abbrev pub ask : (k a b c d : ℤ) (lat lon : ℤ) → Question
ask k a b c d lat lon = question header texts (six (a ∷ b ∷ c ∷ d ∷ []) [] [] (replicate 6 k) (0 ∷ []) (0 ∷ [])) 0 0 0 lat lon 0

-- p = q = 1/2; and halfway from a to b
abbrev centre : (k a b c d : ℤ) → Question
centre k a b c d = ask k a b c d (pos 50) (pos 50)

abbrev pub halfway : (k a b : ℤ) → Question
halfway k a b = ask k a b (pos 0) (pos 0) (pos 100) (pos 50)

unfoldable pub table : List Figure
table =
    is_second 1995 10 15 3022704000
    ∷ is_date 2000 2 29
    ∷ is_date 2096 2 29
    ∷ no_date 1900 2 29
    ∷ no_date 2100 2 29
    ∷ is_number (bytes "   -0") (pos 0)
    ∷ is_number (bytes "00000") (pos 0)
    ∷ no_number (bytes "   +5")
    ∷ no_number (bytes "   5 ")
    ∷ is_line (bytes "  100 9999   -5") (pos 100 ∷ pos 9999 ∷ negsuc 4 ∷ [])
    ∷ no_text []
    ∷ is_answer (centre (negsuc 0) (pos 100) (pos 200) (pos 300) (pos 400)) (tecu (pos 25000))
    ∷ is_answer (halfway (negsuc 2) (pos 0) (pos 1)) (tecu (pos 1))
    ∷ is_answer (halfway (negsuc 2) (pos 0) (negsuc 0)) (tecu (negsuc 0))
    ∷ []

-- what a row says
abbrev pub Midnight : ℕ → ℕ → ℕ → ℕ → Type 0
Midnight y m d t = Dated (pos y) (pos m) (pos d) (pos 0) (pos 0) (pos 0) t

abbrev pub Right : Figure → Type 0
Right (is_second y m d t) = Midnight y m d t
Right (is_date y m d) = (t : ℕ) × Midnight y m d t
Right (no_date y m d) = (t : ℕ) → ¬ Midnight y m d t
Right (is_number f z) = Spells I 5 z f
Right (no_number f) = (z : ℤ) → ¬ Spells I 5 z f
Right (is_line l zs) = ValueRows zs (pad l ∷ [])
Right (no_text t) = (m : MapSet) → ¬ Makes m t
Right (is_answer q a) = Answers q a
