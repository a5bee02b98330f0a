-- A delay as it crosses to other languages: a number, and an area of the call's own for the record.
use Rattle.std.specs.Prelude.{◌≡◌, List, [], ◌∷◌, ℕ, ◌≤◌, ◌<◌, ℤ, Float, length}
use Rattle.kit.specs.Lists.{front}
use Rattle.ask.specs.Ask.{Question}
use Rattle.delay.specs.Delay.{ToldDelay, given, refused, milli, Delays}
use Rattle.ask_delay.specs.AskDelay.{AskDelays}
use Rattle.c_answers.specs.Own.{too_short}

-- 0 for a delay, or 02's number
abbrev pub told_number : ToldDelay → ℕ
told_number (given f t m) = 0
told_number (refused n) = n

-- carrier, TECU and metres
abbrev pub told_record : ToldDelay → List Float
told_record (given f t m) = f ∷ t ∷ m ∷ []
told_record (refused n) = []

-- of thousandths of a TECU x and a carrier f: the number answered, and what is then in the area. One too short is told first
pub data TecuDelayCrosses (x : ℤ) (f : Float) (v : List Float) : ℕ → List Float → Type 0 where
  area_short : length v < 3 → TecuDelayCrosses x f v 103 v
  answered : 3 ≤ length v → (a : ToldDelay) → Delays (milli x) f a → TecuDelayCrosses x f v (told_number a) (front (told_record a) v)

-- of a question, by the caller's numbers h and bytes x, and a carrier f
pub data DelayCrosses (h : List ℤ) (x : List ℕ) (q : Question) (f : Float) (v : List Float) : ℕ → List Float → Type 0 where
  short : (k : ℕ) → k ≡ too_short (length h) (length x) (length v) 3 → 1 ≤ k → DelayCrosses h x q f v k v
  asked : too_short (length h) (length x) (length v) 3 ≡ 0 → (a : ToldDelay) → AskDelays q f a → DelayCrosses h x q f v (told_number a) (front (told_record a) v)
