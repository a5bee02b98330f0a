-- Asking as it crosses to other languages: a number, and an area of the call's own for the value.
use Rattle.std.specs.Prelude.{◌≡◌, List, [], ◌∷◌, ℕ, ◌≤◌, ℤ, length}
use Rattle.mapset.specs.Areas.{Areas}
use Rattle.kit.specs.Lists.{front}
use Rattle.ask.specs.Ask.{Question, question, Told, tecu, km, refused, told_number, Answers}
use Rattle.c_given.specs.Given.{header_of, texts_of}
use Rattle.c_answers.specs.Own.{too_short}

-- thousandths of a TECU or of a kilometre, by the kind that was asked for
abbrev pub told_value : Told → List ℤ
told_value (tecu v) = v ∷ []
told_value (km v) = v ∷ []
told_value (refused n) = []

-- the question, by the caller's numbers and bytes
abbrev pub asks : List ℤ → List ℕ → Areas → ℕ → ℕ → ℕ → ℤ → ℤ → ℕ → Question
asks h x a kind method layer lat lon second = question (header_of h) (texts_of x) a kind method layer lat lon second

-- the number answered, and what is then in the area for the value
pub data AskCrosses (h : List ℤ) (x : List ℕ) (q : Question) (v : List ℤ) : ℕ → List ℤ → Type 0 where
  short : (k : ℕ) → k ≡ too_short (length h) (length x) (length v) 1 → 1 ≤ k → AskCrosses h x q v k v
  answered : too_short (length h) (length x) (length v) 1 ≡ 0 → (a : Told) → Answers q a → AskCrosses h x q v (told_number a) (front (told_value a) v)
