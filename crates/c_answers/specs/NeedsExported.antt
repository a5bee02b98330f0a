-- What a text needs, as it crosses to other languages: a number, and two areas of the call's own, for the needs and for the place.
use Rattle.std.specs.Prelude.{◌⊎◌, List, [], ◌∷◌, ℕ, ◌≤◌, ◌<◌, length, Result, Ok, Err}
use Rattle.kit.specs.Lists.{front}
use Rattle.read_needs.specs.declared.Elements.{Elements}
use Rattle.read_outcome.specs.Outcome.{told_number, told_place, told_reason}
use Rattle.read_outcome.specs.Measures.{Measures}
use Rattle.read_outcome.specs.declared.Reason.{Reason}

-- TEC, RMS, height, exponents, epochs, marks
abbrev pub listed : Elements → List ℕ
listed n = n.tec ∷ n.rms ∷ n.height ∷ n.exponents ∷ n.epochs ∷ n.marks ∷ []

-- 0 for the needs, or 01's number
abbrev pub number : Result Elements Reason → ℕ
number (Ok n) = 0
number (Err w) = told_number (told_reason w)

abbrev pub told_needs : Result Elements Reason → List ℕ
told_needs (Ok n) = listed n
told_needs (Err w) = []

-- line and column of a refusal
abbrev pub place : Result Elements Reason → List ℕ
place (Ok n) = []
place (Err w) = told_place (told_reason w)

-- of the text t and the areas n and p of the call's own: the number answered, and what is then in the areas. One that is too short is told first
pub data NeedsCross (t n p : List ℕ) : ℕ → List ℕ → List ℕ → Type 0 where
  area_short : (length n < 6) ⊎ (length p < 2) → NeedsCross t n p 103 n p
  answered : 6 ≤ length n → 2 ≤ length p → (m : Result Elements Reason) → Measures t m → NeedsCross t n p (number m) (front (told_needs m) n) (front (place m) p)
