-- 02, Ask 7: what is answered of a text and three lent areas, and what is left in them.
use Rattle.std.specs.Prelude.{◌≡◌, List, [], ◌∷◌, ℕ, length, Result, Ok, Err}
use Rattle.std.proofs.Math.Option.{Option, none, some}
use Rattle.kit.specs.Answer.{Answer, ok, refused}
use Rattle.mapset.specs.MapSet.{MapSet}
use Rattle.reading.specs.declared.Why.{Why}
use Rattle.reading.specs.Read.{read}
use Rattle.read_needs.specs.Needs.{first_short}
use Rattle.read_outcome.specs.Outcome as maps
use Rattle.read_outcome.specs.Outcome.{at_place, eleven, told_reason}
use Rattle.biases.specs.Biases.{Biases}
use Rattle.biases.specs.Read.{biases}
use Rattle.bias_fill.specs.Flat.{Lent, flat, in_front}
use Rattle.bias_scan.specs.declared.Counts.{Counts}
use Rattle.read_outcome.specs.declared.Reason.{Reason}

-- ---- the answer: how many satellites and stations; or why not: 01's number with line and column, or 11 with the area and its need
pub data ToldBiases : Type 0 where
  given : (satellites stations : ℕ) → ToldBiases
  because : maps.ToldReading → ToldBiases

-- what is answered, and what is then in the areas
pub record Outcome : Type 0 where
  pub told : ToldBiases
  pub areas : Lent

-- the areas in their order: the elements that each needs, and those lent
abbrev pub needed_and_lent : (a l : Lent) → List (ℕ × ℕ)
needed_and_lent a l =
    (length a.satellites, length l.satellites) ∷ (length a.stations, length l.stations) ∷ (length a.names, length l.names) ∷ []

-- the biases in front of each area and behind them what was there, where each is long enough
unfoldable pub with_room : Biases → Lent → Option (ℕ × ℕ) → Outcome
with_room b l none = record { told = given (length b.satellites) (length b.stations); areas = in_front (flat b) l }
with_room b l (some s) = record { told = because (eleven s.0 s.1); areas = l }

-- a refusal leaves all lent areas untouched
unfoldable pub outcome_of : Answer Why Biases → Lent → Outcome
outcome_of (ok b) l = with_room b l (first_short 1 (needed_and_lent (flat b) l))
outcome_of (refused w) l = record { told = because (at_place w.number w.line w.column); areas = l }

abbrev pub outcome : List ℕ → Lent → Outcome
outcome t l = outcome_of (biases t) l

-- ---- what the code's answer tells

abbrev pub told : Result Counts Reason → ToldBiases
told (Ok c) = given c.satellites c.stations
told (Err w) = because (told_reason w)

-- what the code hands back, with the areas as it leaves them
abbrev pub comes : Result Counts Reason → Lent → Outcome
comes r l = record { told = told r; areas = l }

-- the text's maps are accepted
pub record Maps (t : List ℕ) : Type 0 where
  pub set : MapSet
  pub reads : read t ≡ ok set
