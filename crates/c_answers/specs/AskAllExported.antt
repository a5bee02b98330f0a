-- Many questions as they cross to other languages: a number for the call, and for each question a number and a value in areas of the call's own.
use Rattle.std.specs.Prelude.{◌≡◌, List, ℕ, ◌≤◌, ℤ, length}
use Rattle.ask.specs.Ask.{Question}
use Rattle.ask_all.specs.AskAll.{Places, Slots, AsksAll}
use Rattle.c_answers.specs.Own.{too_short}

-- the number answered, and what is then in the areas: none of these is too short for its questions, so there is no 103
pub data AskAllCrosses (h : List ℤ) (x : List ℕ) (at : ℤ → ℤ → ℕ → Question) (p : Places) (l : Slots) : ℕ → Slots → Type 0 where
  short : (k : ℕ) → k ≡ too_short (length h) (length x) 0 0 → 1 ≤ k → AskAllCrosses h x at p l k l
  answered : too_short (length h) (length x) 0 0 ≡ 0 → (k : ℕ) (m : Slots) → AsksAll at p l k m → AskAllCrosses h x at p l k m
