-- 02's numbers of the refusals, and a week as its 16 numbers.
use mathlib.Core.Path.{◌≡◌, refl}
use mathlib.Core.List.{[], ◌∷◌}
use Prim.Native.Nat.{ℕ}
use lib.IntN.{pos, negsuc}
use Rattle.std.specs.Prelude.{None, Err}
use Rattle.week_tally.specs.Figures.{from}
use Rattle.week.specs.Week.{tecu, km}
use Rattle.week.specs.declared.Why.TheVariants as Y
use Rattle.c_week.specs.WeekNumbers.{week_numbers}
use Rattle.c_week.specs.WeekExported.{told_number, told_place}

-- 60 after the hundredth, 31 for an invalid set, 11 with area 1 and its need
pub numbers_told : (n : ℕ) → (told_number (Err Y.Full) ≡ 60) × (told_number (Err Y.Invalid) ≡ 31) × (told_number (Err (Y.Short n)) ≡ 11) × (told_place (Err (Y.Short n)) ≡ 1 ∷ n ∷ [])
numbers_told n = (refl, refl, refl, refl)

-- how many sets; of TEC, RMS and height with a value, without, the smallest, the largest, the sum
pub week_in_numbers : week_numbers (record {
  sets = 2;
  tec = tecu (record { given = 3; lacking = 1; range = from (negsuc 299) (pos 500); sum = pos 600 });
  rms = tecu (record { given = 0; lacking = 4; range = None; sum = pos 0 });
  height = km (record { given = 2; lacking = 2; range = from (pos 70) (pos 80); sum = pos 150 });
}) ≡ pos 2 ∷ pos 3 ∷ pos 1 ∷ negsuc 299 ∷ pos 500 ∷ pos 600 ∷ pos 0 ∷ pos 4 ∷ pos 0 ∷ pos 0 ∷ pos 0 ∷ pos 2 ∷ pos 2 ∷ pos 70 ∷ pos 80 ∷ pos 150 ∷ []
week_in_numbers = refl
