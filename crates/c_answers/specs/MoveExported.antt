-- An epoch moved, as it crosses to other languages: a second for a second.
use Rattle.std.specs.Prelude.{List, [], ◌∷◌, ℕ, ◌≤◌, ◌<◌, ℤ, length}
use Rattle.kit.specs.Answer.{Answer, ok, refused}
use Rattle.calendar.specs.Calendar.{DateAt, Later, Refusal, The}
use Rattle.calendar.specs.declared.Epoch.{Epoch}
use Rattle.kit.specs.Lists.{front}

-- t is the second of the date that comes `by` seconds after the date of second s
pub record Moves (s : ℕ) (by : ℤ) (t : ℕ) : Type 0 where
  pub from : Epoch
  pub to : Epoch
  pub starts : DateAt from s
  pub later : Later from by to
  pub ends : DateAt to t

-- 0 for an epoch, or 01's number
abbrev pub told_number : Answer Refusal ℕ → ℕ
told_number (ok t) = 0
told_number (refused w) = 7

abbrev pub told_moved : Answer Refusal ℕ → List ℕ
told_moved (ok t) = t ∷ []
told_moved (refused w) = []

-- of the second s and the lent area v: the number answered, and what is then in the area. An area too short is told first
pub data MoveCrosses (s : ℕ) (by : ℤ) (v : List ℕ) : ℕ → List ℕ → Type 0 where
  area_short : length v < 1 → MoveCrosses s by v 103 v
  answered : 1 ≤ length v → (a : Answer Refusal ℕ) → The (Moves s by) a → MoveCrosses s by v (told_number a) (front (told_moved a) v)
