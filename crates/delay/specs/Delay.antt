-- 02, request 13: the group delay in metres of a TEC answer x at a carrier f.
use Rattle.std.specs.Prelude.{ℕ, T, ℤ, pos, Float, Option, Some, None}
use Rattle.std.specs.Float.{binary64}
use Rattle.std.specs.Float.Ieee.{mul, div, le, of_int}
use Rattle.ask_nodes.specs.declared.MilliTecu.{MilliTecu}
use Rattle.delay.specs.declared.Delay.{Delay}

-- carrier, TECU and metres, or 02's number of a refusal
pub data ToldDelay : Type 0 where
  given : Float → Float → Float → ToldDelay
  refused : ℕ → ToldDelay

abbrev pub Delayed : Type 0
Delayed = Option Delay

abbrev pub told : Delayed → ToldDelay
told (Some d) = given d.carrier d.tecu d.metres
told None = refused 25

-- so many thousandths of a TECU
abbrev pub milli : ℤ → MilliTecu
milli n = record { 0 = n }

-- the f64 of a whole number: the nearest, and the number itself for each that is named below (Literals)
abbrev pub whole : ℕ → Float
whole n = of_int binary64 (pos n)

-- x divided by 1000
abbrev pub tecu : MilliTecu → Float
tecu x = div binary64 (of_int binary64 x.0) (whole 1_000)

-- that, times 4.03e17, divided by f times f; each step rounded once
abbrev pub metres : MilliTecu → Float → Float
metres x f = div binary64 (mul binary64 (tecu x) (whole 403_000_000_000_000_000)) (mul binary64 f f)

-- f compares as at least 1.0e9 and at most 2.0e9
abbrev pub InBand : Float → Type 0
InBand f = T (le (whole 1_000_000_000) f) × T (le f (whole 2_000_000_000))

pub data Delays (x : MilliTecu) (f : Float) : ToldDelay → Type 0 where
  serves : InBand f → Delays x f (given f (tecu x) (metres x f))
  refuses : ¬ InBand f → Delays x f (refused 25)
