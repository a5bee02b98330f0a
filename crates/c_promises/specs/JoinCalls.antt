-- 02, Ask 12: three map sets joined by two calls of `ionex_join`, in either grouping.
use Rattle.std.specs.Prelude.{◌≡◌, List, ◌⊎◌, ℕ, ◌≤◌, ℤ}
use Rattle.mapset.specs.Areas.{Areas}
use Rattle.c_answers.specs.ReadExported.{Crossed, crossed}
use Rattle.c_answers.specs.JoinExported.{join_crossed}

-- a map set as a call is handed it: a header's numbers, the bytes of its texts, and six areas
pub record Handed : Type 0 where
  pub header : List ℤ
  pub texts : List ℕ
  pub areas : Areas

-- what a call is lent for its answer: six areas, and those for the header's numbers, the texts' bytes and the place
pub record Room : Type 0 where
  pub areas : Areas
  pub header : List ℤ
  pub texts : List ℕ
  pub place : List ℕ

-- the contract of `ionex_join`: c is the number answered, with what is then in the areas lent
abbrev pub Joins : (earlier later : Handed) → Room → Crossed → Type 0
Joins x y r c = c ≡ join_crossed x.header x.texts x.areas y.header y.texts y.areas r.areas r.header r.texts r.place

-- what a call left, handed on
abbrev pub on : Crossed → Handed
on c = record { header = c.header; texts = c.texts; areas = c.areas }

-- a number, with the areas as found
abbrev pub as_found : ℕ → Room → Crossed
as_found k r = crossed k r.areas r.header r.texts r.place

-- the first two into r₁, and what is there with the third into r; the second call is made only where the first answers 0
pub data Leftwards (x y z : Handed) (r₁ r : Room) : Crossed → Type 0 where
  stopped : (c : Crossed) → Joins x y r₁ c → ¬ (c.number ≡ 0) → Leftwards x y z r₁ r (as_found c.number r)
  went : (c : Crossed) → Joins x y r₁ c → c.number ≡ 0 → (d : Crossed) → Joins (on c) z r d → Leftwards x y z r₁ r d

-- the last two into r₂, and the first with what is there into r
pub data Rightwards (x y z : Handed) (r₂ r : Room) : Crossed → Type 0 where
  stopped : (c : Crossed) → Joins y z r₂ c → ¬ (c.number ≡ 0) → Rightwards x y z r₂ r (as_found c.number r)
  went : (c : Crossed) → Joins y z r₂ c → c.number ≡ 0 → (d : Crossed) → Joins x (on c) r d → Rightwards x y z r₂ r d

-- an area is too short: 11 for one of the six, 101 to 103 for one of the call's own
abbrev pub TooShort : Crossed → Type 0
TooShort c = (c.number ≡ 11) ⊎ (101 ≤ c.number)

-- both answer 0, with the same in every area; or both are refused, by whatever numbers
pub data Alike (c d : Crossed) : Type 0 where
  both_done : c.number ≡ 0 → c ≡ d → Alike c d
  both_refused : ¬ (c.number ≡ 0) → ¬ (d.number ≡ 0) → Alike c d
