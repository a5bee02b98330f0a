-- A range by a caller's two numbers, case by case.
use mathlib.Core.Path.{◌≡◌, sym}
use Prim.Native.Nat.{ℕ, zero, suc}
use native.Mathlib.Omega.{arith}
use lib.IntN.{ℤ, pos, negsuc}
use mir.Syntax.{w32}
use mir.Val.{SFits}
use Rattle.kit.specs.Answer.{×_dec}
use Rattle.kit.proofs.AnswerLaws.{pick_yes, pick_no}
use Rattle.kit.specs.Integer.{Between, between?}
use Rattle.kit.proofs.Parts.{parts_le}
use Rattle.std.specs.Prelude.{None}
use Rattle.week_tally.specs.Figures.{from}
use Rattle.c_week.specs.WeekNumbers.{range_of}

abbrev pub Narrow : ℤ → Type 0
Narrow z = Between (negsuc 2147483647) (pos 2147483647) z

abbrev pub narrow? : (a b : ℤ) → Dec (Narrow a × Narrow b)
narrow? a b = ×_dec (between? (negsuc 2147483647) (pos 2147483647) a) (between? (negsuc 2147483647) (pos 2147483647) b)

abbrev pub Still : ℤ → Type 0
Still z = Between (pos 0) (pos 0) z

abbrev pub still? : (a b : ℤ) → Dec (Still a × Still b)
still? a b = ×_dec (between? (pos 0) (pos 0) a) (between? (pos 0) (pos 0) b)

pub narrow_fits : (z : ℤ) → Narrow z → SFits w32 z
narrow_fits (pos n) b = record { sfits = omega (arith, parts_le (pos n) (pos 2147483647) b.to) }
narrow_fits (negsuc n) b = record { sfits = omega (arith, parts_le (negsuc 2147483647) (negsuc n) b.from) }

module _ (a b : ℤ) where
  pub range_none : Still a × Still b → None ≡ range_of 0 a b
  unfolding range_of
  range_none h = sym (pick_yes (still? a b) _ _ h)

  pub range_unfit : ¬ (Still a × Still b) → from (pos 0) (pos 0) ≡ range_of 0 a b
  unfolding range_of
  range_unfit h = sym (pick_no (still? a b) _ _ h)

  pub range_from : (n : ℕ) → ¬ (n ≡ 0) → Narrow a × Narrow b → from a b ≡ range_of n a b
  unfolding range_of
  range_from zero k h = absurd (k (omega arith))
  range_from (suc n) k h = sym (pick_yes (narrow? a b) _ _ h)

  pub range_wide : (n : ℕ) → ¬ (n ≡ 0) → ¬ (Narrow a × Narrow b) → None ≡ range_of n a b
  unfolding range_of
  range_wide zero k h = absurd (k (omega arith))
  range_wide (suc n) k h = sym (pick_no (narrow? a b) _ _ h)
