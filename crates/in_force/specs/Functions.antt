-- The same day through `read` and `ask`, the library's own functions: `read` hands header and texts back, and who calls it keeps them beside the areas.
use Rattle.std.specs.Prelude.{◌≡◌, List, [], ◌∷◌, ℕ, ℤ}
use Rattle.mapset.specs.Areas.{Areas}
use Rattle.mapset.specs.Described.{FullTexts}
use Rattle.mapset.specs.declared.Header.{Header}
use Rattle.read_outcome.specs.Outcome.{ToldReading, accepted, at_place, eleven, told_number, told, Outcome, outcome, comes}
use Rattle.read_outcome.specs.declared.ReadOut.{ReadOut}
use Rattle.ask.specs.Ask.{Question, question}

-- what a caller keeps: the header and the texts that came back last, and the six areas
pub record Keeper : Type 0 where
  pub header : Header
  pub texts : FullTexts
  pub areas : Areas

-- what is kept after a call of `read`: header and texts are taken over where the text was accepted
abbrev pub taken : Keeper → ToldReading → FullTexts → Areas → Keeper
taken s (accepted h) x l = record { header = h; texts = x; areas = l }
taken s (at_place k i c) x l = record { header = s.header; texts = s.texts; areas = l }
taken s (eleven i n) x l = record { header = s.header; texts = s.texts; areas = l }

abbrev pub kept_of : Keeper → Outcome → Keeper
kept_of s o = taken s o.told o.texts o.areas

-- calls of any code that keeps the contract of `read`, one after the other: each text with 0 or the number of its refusal
pub data Turns : Keeper → List (List ℕ × ℕ) → Keeper → Type 0 where
  stop : {s : Keeper} → Turns s [] s
  turn : {s s' : Keeper} (t : List ℕ) (r : ReadOut) (l : Areas) {xs : List (List ℕ × ℕ)}
      → comes r l ≡ outcome t s.areas → Turns (kept_of s (comes r l)) xs s' → Turns s ((t, told_number (told r.answer)) ∷ xs) s'

-- a question to what is kept
abbrev pub of_keeper : Keeper → (kind method layer : ℕ) (lat lon : ℤ) (second : ℕ) → Question
of_keeper s = question s.header s.texts s.areas

-- nothing that is kept is another
pub record Same (s s' : Keeper) : Type 0 where
  pub header : s.header ≡ s'.header
  pub texts : s.texts ≡ s'.texts
  pub areas : s.areas ≡ s'.areas
