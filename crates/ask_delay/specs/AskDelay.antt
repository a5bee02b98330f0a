-- 02, request 13: the delay at a place and second.
use Rattle.std.specs.Prelude.{◌≡◌, ℕ, ℤ, Float, Result, Ok, Err}
use Rattle.ask.specs.Ask as ask
use Rattle.ask.specs.Ask.{Question, Answers, number}
use Rattle.delay.specs.Delay as delay
use Rattle.delay.specs.Delay.{ToldDelay, refused, milli, Delays}
use Rattle.ask.specs.declared.Why.{Why}

-- a height has no delay: kind 2 is 23. Else the refusal of the question, or the delay of its answer in TECU, where 25 comes last
pub data AskDelays (q : Question) (f : Float) : ToldDelay → Type 0 where
  no_delay : q.kind ≡ 2 → AskDelays q f (refused 23)
  refuses : ¬ (q.kind ≡ 2) → (n : ℕ) → Answers q (ask.refused n) → AskDelays q f (refused n)
  serves : ¬ (q.kind ≡ 2) → (x : ℤ) → Answers q (ask.tecu x) → (a : ToldDelay) → Delays (milli x) f a → AskDelays q f a

-- ---- what the code's answer tells
abbrev pub AskedDelay : Type 0
AskedDelay = Result delay.Delayed Why

abbrev pub told : AskedDelay → ToldDelay
told (Ok d) = delay.told d
told (Err w) = refused (number w)

-- an answer turned; kilometres are none of a question whose kind is not 2
abbrev pub Turned : Float → ask.Told → ToldDelay → Type 0
Turned f (ask.tecu x) a = Delays (milli x) f a
Turned f (ask.km x) a = a ≡ refused 23
Turned f (ask.refused n) a = a ≡ refused n
