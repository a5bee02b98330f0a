-- What the exports tell, in 01's and 02's numbers and in the order of `include/ionex.h`: the refusals that have a form of their own, the six needs, and a header
-- record as its 45 numbers.
use mathlib.Core.Path.{◌≡◌, refl}
use mathlib.Core.List.{[], ◌∷◌}
use Prim.Native.Nat.{ℕ}
use native.Mathlib.Decide.{dec_le}
use lib.IntN.{pos, negsuc}
use Rattle.kit.specs.Answer.{pick, refused}
use Rattle.calendar.specs.Calendar.{Refusal}
use Rattle.mapset.specs.declared.Header.{Header}
use Rattle.mapset.specs.Said.{axis_of}
use Rattle.mapset.specs.Samples.{given_count, given_system, absent_system}
use Rattle.read_outcome.specs.Outcome.{at_place, eleven}
use Rattle.read_outcome.specs.Outcome as R
use Rattle.write_text.specs.Write.{told}
use Rattle.std.specs.Prelude.{Err}
use Rattle.write_text.specs.declared.Unwritten.TheVariants as W
use Rattle.join.specs.Into.{because, short}
use Rattle.c_header.specs.Numbers.{numbers}
use Rattle.c_answers.specs.Own.{too_short}
use Rattle.c_answers.specs.WriteExported as E
use Rattle.c_answers.specs.JoinExported as J
use Rattle.c_answers.specs.MoveExported as M
use Rattle.c_answers.specs.NeedsExported.{listed}

-- 11 with its area and need, 30 with its bytes, 31 with nothing, 7 for an epoch; else the number with line and column
pub numbers_told : (a n k l c : ℕ) (w : Refusal)
    → (R.told_number (eleven a n) ≡ 11) × (R.told_place (eleven a n) ≡ a ∷ n ∷ []) × (R.told_number (at_place k l c) ≡ k) × (R.told_place (at_place k l c) ≡ l ∷ c ∷ [])
    × (E.told_number (told (Err (W.Short n))) ≡ 30) × (E.told_count (told (Err (W.Short n))) ≡ n ∷ []) × (E.told_number (told (Err W.Unsound)) ≡ 31) × (E.told_count (told (Err W.Unsound)) ≡ [])
    × (J.why_number (because k) ≡ k) × (J.why_number (short a n) ≡ 11) × (J.why_place (short a n) ≡ a ∷ n ∷ []) × (M.told_number (refused w) ≡ 7)
numbers_told a n k l c w = (refl, refl, refl, refl, refl, refl, refl, refl, refl, refl, refl, refl)

-- an area of the call's own that is one too short, in their order
pub own_too_short : (too_short 44 1323 1 2 ≡ 101) × (too_short 45 1323 1 2 ≡ 102) × (too_short 45 1324 1 2 ≡ 103) × (too_short 45 1324 2 2 ≡ 0)
unfolding too_short pick dec_le
own_too_short = (refl, refl, refl, refl)

-- TEC, RMS, height, exponents, epochs, marks
pub needs_listed : listed (record { tec = 1; rms = 2; height = 3; exponents = 4; epochs = 5; marks = 6 }) ≡ 1 ∷ 2 ∷ 3 ∷ 4 ∷ 5 ∷ 6 ∷ []
needs_listed = refl

abbrev a_header : Header
a_header =
    record {
      version = record { tenths = 11; kind = 73; code = 6 };
      times = record { first = 3022704000; last = 3022707600; interval = 3600; maps = 2 };
      model = record { cutoff = 100; radius = 63710; dimension = 3 };
      grid = record {
        heights = axis_of (pos 4500) (pos 5000) (pos 500);
        latitudes = axis_of (pos 875) (negsuc 874) (negsuc 24);
        longitudes = axis_of (negsuc 1799) (pos 1800) (pos 50);
      };
      stations = given_count 80;
      satellites = given_count 32;
      systems =
          record { g = given_system 81 24; r = given_system 51 7; e = given_system 52 8; c = given_system 53 9; j = given_system 54 10; i = absent_system; s = given_system 55 11 };
      descriptions = 4;
    }

-- version, times, model; heights, latitudes, longitudes; stations, satellites; G R E C J I S; the DESCRIPTION lines
pub header_in_numbers : numbers a_header
    ≡ pos 11 ∷ pos 73 ∷ pos 6 ∷ pos 3022704000 ∷ pos 3022707600 ∷ pos 3600 ∷ pos 2 ∷ pos 100 ∷ pos 63710 ∷ pos 3
    ∷ pos 4500 ∷ pos 5000 ∷ pos 500 ∷ pos 875 ∷ negsuc 874 ∷ negsuc 24 ∷ negsuc 1799 ∷ pos 1800 ∷ pos 50
    ∷ pos 1 ∷ pos 80 ∷ pos 1 ∷ pos 32
    ∷ pos 1 ∷ pos 81 ∷ pos 24 ∷ pos 1 ∷ pos 51 ∷ pos 7 ∷ pos 1 ∷ pos 52 ∷ pos 8 ∷ pos 1 ∷ pos 53 ∷ pos 9 ∷ pos 1 ∷ pos 54 ∷ pos 10 ∷ pos 0 ∷ pos 0 ∷ pos 0 ∷ pos 1 ∷ pos 55 ∷ pos 11
    ∷ pos 4 ∷ []
header_in_numbers = refl
