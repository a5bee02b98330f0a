-- 01, 'What comes back': what is answered of a text and six lent areas, and what is left in them.
use Rattle.std.specs.Prelude.{List, [], ◌∷◌, ℕ, Result, Ok, Err}
use Rattle.std.proofs.Math.Option.{Option, none, some}
use Rattle.kit.specs.Answer.{Answer, ok, refused}
use Rattle.mapset.specs.declared.Header.{Header}
use Rattle.mapset.specs.Described.{FullTexts, full}
use Rattle.mapset.specs.Lines.{no_lines}
use Rattle.mapset.specs.MapSet.{MapSet}
use Rattle.mapset.specs.Areas.{Areas}
use Rattle.reading.specs.declared.Why.{Why}
use Rattle.reading.specs.Read.{read}
use Rattle.mapset.specs.Said.{blank_texts}
use Rattle.areas.specs.Flat.{areas}
use Rattle.areas.specs.Fronts.{fronts}
use Rattle.read_needs.specs.Needs.{needed_and_lent, first_short}
use Rattle.read_outcome.specs.declared.Reason.{Reason}
use Rattle.read_outcome.specs.declared.Reason.TheVariants.{LongLine, BadByte, NotIonex, UnknownLabel, Misplaced, IllFormed, OutOfRange, Disagrees, Missing, EndsEarly, AreaTooShort}
use Rattle.read_outcome.specs.declared.ReadOut.{ReadOut}

-- ---- the answer: the header record; or 01's number with line and column; or 11 with the area and the elements it needs
pub data ToldReading : Type 0 where
  accepted : Header → ToldReading
  at_place : (number line column : ℕ) → ToldReading
  eleven : (area need : ℕ) → ToldReading

-- 0 for done, or 01's number
abbrev pub told_number : ToldReading → ℕ
told_number (accepted h) = 0
told_number (at_place k l c) = k
told_number (eleven a n) = 11

-- line and column, or area and need; nothing where the text is accepted
abbrev pub told_place : ToldReading → List ℕ
told_place (accepted h) = []
told_place (at_place k l c) = l ∷ c ∷ []
told_place (eleven a n) = a ∷ n ∷ []

-- blanks beside a refusal
abbrev pub no_texts : FullTexts
no_texts = full blank_texts no_lines

-- what is answered, the texts beside it, and what is then in the areas
pub record Outcome : Type 0 where
  pub told : ToldReading
  pub texts : FullTexts
  pub areas : Areas

-- the map set in front of each area and behind it what was there, where each is long enough
unfoldable pub with_room : MapSet → Areas → Option (ℕ × ℕ) → Outcome
with_room m l none = record { told = accepted m.header; texts = m.texts; areas = fronts (areas m) l }
with_room m l (some s) = record { told = eleven s.0 s.1; texts = no_texts; areas = l }

-- a refusal leaves all lent areas untouched
unfoldable pub outcome_of : Answer Why MapSet → Areas → Outcome
outcome_of (ok m) l = with_room m l (first_short 1 (needed_and_lent (areas m) l))
outcome_of (refused w) l = record { told = at_place w.number w.line w.column; texts = no_texts; areas = l }

abbrev pub outcome : List ℕ → Areas → Outcome
outcome t l = outcome_of (read t) l

-- ---- what the code's answer tells

abbrev pub told_reason : Reason → ToldReading
told_reason (LongLine l c) = at_place 1 l c
told_reason (BadByte l c) = at_place 2 l c
told_reason (NotIonex l c) = at_place 3 l c
told_reason (UnknownLabel l c) = at_place 4 l c
told_reason (Misplaced l c) = at_place 5 l c
told_reason (IllFormed l c) = at_place 6 l c
told_reason (OutOfRange l c) = at_place 7 l c
told_reason (Disagrees l c) = at_place 8 l c
told_reason (Missing l c) = at_place 9 l c
told_reason (EndsEarly l c) = at_place 10 l c
told_reason (AreaTooShort a n) = eleven a n

abbrev pub told : Result Header Reason → ToldReading
told (Ok h) = accepted h
told (Err w) = told_reason w

abbrev pub texts_in : ReadOut → FullTexts
texts_in r = full r.texts r.descriptions.bytes

-- what the code hands back, with the areas as it leaves them
abbrev pub comes : ReadOut → Areas → Outcome
comes r l = record { told = told r.answer; texts = texts_in r; areas = l }
