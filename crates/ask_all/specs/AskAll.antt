-- Many questions in one call: one set, kind, method and layer, and of each question its latitude, longitude and second.
use Rattle.std.specs.Prelude.{◌≡◌, List, ℕ, ◌≤◌, ◌<◌, ℤ, pos, length, get_or, Result, Ok, Err}
use Rattle.kit.specs.Range.{lesser}
use Rattle.ask.specs.Ask.{Question, Told, tecu, km, refused, told_number, Answers, Barred, Open, number}
use Rattle.ask.specs.declared.Why.{Why}

-- the places and seconds that are asked for
pub record Places : Type 0 where
  pub lats : List ℤ
  pub lons : List ℤ
  pub seconds : List ℕ

-- and where the answers go: a number and a value for each
pub record Slots : Type 0 where
  pub answers : List ℕ
  pub values : List ℤ

abbrev pub places : List ℤ → List ℤ → List ℕ → Places
places lats lons seconds = record { lats = lats; lons = lons; seconds = seconds }

abbrev pub slots : List ℕ → List ℤ → Slots
slots answers values = record { answers = answers; values = values }

-- as many questions as the shortest of the five has elements
abbrev pub count : Places → Slots → ℕ
count p l = lesser (length p.lats) (lesser (length p.lons) (lesser (length p.seconds) (lesser (length l.answers) (length l.values))))

-- a value takes its place, a refusal leaves what was there
abbrev pub value_or : ℤ → Told → ℤ
value_or v (tecu x) = x
value_or v (km x) = x
value_or v (refused n) = v

-- one question: its number, and its value where before was v
pub record Fills (R : Told → Type 0) (v : ℤ) (n : ℕ) (w : ℤ) : Type 0 where
  pub answer : Told
  pub given : R answer
  pub number : n ≡ told_number answer
  pub value : w ≡ value_or v answer

-- the first n questions are answered by R, and everything behind them stays
pub record Each (R : ℤ → ℤ → ℕ → Told → Type 0) (n : ℕ) (p : Places) (l m : Slots) : Type 0 where
  pub as_many_answers : length m.answers ≡ length l.answers
  pub as_many_values : length m.values ≡ length l.values
  pub each : (k : ℕ) → k < n
      → Fills (R (get_or p.lats k (pos 0)) (get_or p.lons k (pos 0)) (get_or p.seconds k 0)) (get_or l.values k (pos 0)) (get_or m.answers k 0) (get_or m.values k (pos 0))
  pub answers_behind : (k : ℕ) → n ≤ k → get_or m.answers k 0 ≡ get_or l.answers k 0
  pub values_behind : (k : ℕ) → n ≤ k → get_or m.values k (pos 0) ≡ get_or l.values k (pos 0)

-- 23, 31 and 24 are the call's own, and leave everything as found; else it is 0, and each answer is that of its question alone
pub data AsksAll (at : ℤ → ℤ → ℕ → Question) (p : Places) (l : Slots) : ℕ → Slots → Type 0 where
  barred : (n : ℕ) → ((lat lon : ℤ) (second : ℕ) → Barred (at lat lon second) n) → AsksAll at p l n l
  answered : ((lat lon : ℤ) (second : ℕ) → Open (at lat lon second)) → (m : Slots) → Each (λ lat lon second. Answers (at lat lon second)) (count p l) p l m → AsksAll at p l 0 m

-- ---- what the code's answer tells
-- each question has its answer, or why none has
abbrev pub AllAsked : Type 0
AllAsked = Result (Unit {0}) Why

abbrev pub told : AllAsked → ℕ
told (Ok u) = 0
told (Err w) = number w
