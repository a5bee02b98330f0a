-- What is printed of a text.
use Rattle.std.specs.Prelude.{◌≡◌, List, [], ◌∷◌, ℕ, ◌≤◌, length, take, Result, Ok, Err}
use Rattle.std.proofs.Math.Option.{Option, none, some}
use Rattle.std.proofs.Math.Decide.{dec_le}
use Rattle.kit.specs.Answer.{Answer, ok, refused, pick}
use Rattle.mapset.specs.declared.Header.{Header}
use Rattle.mapset.specs.Described.{FullTexts}
use Rattle.mapset.specs.Areas.{Areas}
use Rattle.mapset.specs.MapSet.{MapSet}
use Rattle.reading.specs.declared.Why.{Why}
use Rattle.reading.specs.Read.{read}
use Rattle.areas.specs.Flat.{areas}
use Rattle.valid.specs.Validity.{validity}
use Rattle.canonical.specs.Canon.{canon}
use Rattle.canonical.specs.CanonOf.{canon_of}
use Rattle.write_text.specs.Write as W
use Rattle.read_needs.specs.Needs.{first_short}
use Rattle.read_outcome.specs.declared.Reason.{Reason}
use Rattle.read_outcome.specs.Outcome.{told_reason}
use Rattle.program_line.specs.Lines.{place_line, area_line, need_line, unsound_line, big_line, line_of}

-- a text, or, where it is longer than the output, that it is
unfoldable pub fitted : (room : ℕ) → List ℕ → List ℕ
fitted room x = pick (dec_le (length x) room) x (need_line (length x))

-- what is lent as canonical text
unfoldable pub canonical : (room : ℕ) → Header → FullTexts → Areas → List ℕ
canonical room h t a = pick (validity h t a) (fitted room (canon_of h t a)) unsound_line

-- after writing, the output then being o: what stands in front of it, or why nothing does
abbrev pub shown : W.ToldWriting → (o : List ℕ) → List ℕ
shown (W.done n) o = take n o
shown (W.refused k []) o = unsound_line
shown (W.refused k (n ∷ b)) o = need_line n

-- what is told to be written stands within the output
abbrev pub Stands : W.ToldWriting → (room : ℕ) → Type 0
Stands (W.done n) room = n ≤ room
Stands (W.refused k b) room = Unit {0}

-- after reading, the areas then being a
abbrev pub answered : (room : ℕ) → Result Header Reason → FullTexts → Areas → List ℕ
answered room (Ok h) t a = canonical room h t a
answered room (Err w) t a = line_of (told_reason w)

-- the areas that the program has
pub record Had (l : Areas) : Type 0 where
  pub tec : length l.tec ≡ 4000
  pub rms : length l.rms ≡ 4000
  pub height : length l.height ≡ 4000
  pub exponents : length l.exponents ≡ 4000
  pub epochs : length l.epochs ≡ 300
  pub marks : length l.marks ≡ 300

-- the elements that each area needs, and those that the program has
abbrev pub needed_and_had : Areas → List (ℕ × ℕ)
needed_and_had a =
    (length a.tec, 4000)
    ∷ (length a.rms, 4000)
    ∷ (length a.height, 4000)
    ∷ (length a.exponents, 4000)
    ∷ (length a.epochs, 300)
    ∷ (length a.marks, 300)
    ∷ []

-- of a map set: the canonical text, where no area is too short
unfoldable pub set_printed : MapSet → Option (ℕ × ℕ) → List ℕ
set_printed m none = fitted 65536 (canon m)
set_printed m (some s) = area_line s.0 s.1

unfoldable pub answer_printed : Answer Why MapSet → List ℕ
answer_printed (ok m) = set_printed m (first_short 1 (needed_and_had (areas m)))
answer_printed (refused w) = place_line w.number w.line w.column

unfoldable pub printed : List ℕ → List ℕ
printed t = pick (dec_le (length t) 32768) (answer_printed (read t)) big_line
