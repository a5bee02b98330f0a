-- `days::leap_flag` meets its contract.
use mathlib.Core.Bool.{and-false, or-true}
use mathlib.Core.Path.{◌≡◌, refl, sym}
use Prim.Native.Nat.{ℕ, ◌%◌}
use borrow.Author.Tests.{eq-eqb, ne_eqb}
use Rattle.days.specs.Years.{is_leap, row}
use Rattle.days.proofs.leap_flag.Goals as goal

module _ (y : ℕ) where
  by_400 : y % 400 ≡ 0 → row y ≡ 1
  unfolding is_leap
  by_400 a = rw (eq-eqb _ _ a, or-true) refl

  by_100 : ¬ (y % 400 ≡ 0) → y % 100 ≡ 0 → row y ≡ 0
  unfolding is_leap
  by_100 a b = rw (ne_eqb _ _ a, eq-eqb _ _ b, and-false) refl

  by_4 : ¬ (y % 400 ≡ 0) → ¬ (y % 100 ≡ 0) → y % 4 ≡ 0 → row y ≡ 1
  unfolding is_leap
  by_4 a b c = rw (ne_eqb _ _ a, ne_eqb _ _ b, eq-eqb _ _ c) refl

  by_none : ¬ (y % 400 ≡ 0) → ¬ (y % 4 ≡ 0) → row y ≡ 0
  unfolding is_leap
  by_none a c = rw (ne_eqb _ _ a, ne_eqb _ _ c) refl

pub returns-then-year-eq0 : goal.returns-then-year-eq0
returns-then-year-eq0 c = sym (by_400 _ c.if-year-eq0.true)

pub returns-then-year-eq0-2 : goal.returns-then-year-eq0-2
returns-then-year-eq0-2 c = sym (by_100 _ c.if-year-eq0.false c.if-year-eq0-2.true)

pub returns-then-year-eq0-3 : goal.returns-then-year-eq0-3
returns-then-year-eq0-3 c = sym (by_4 _ c.if-year-eq0.false c.if-year-eq0-2.false c.if-year-eq0-3.true)

pub returns-else-year-eq0-3 : goal.returns-else-year-eq0-3
returns-else-year-eq0-3 c = sym (by_none _ c.if-year-eq0.false c.if-year-eq0-3.false)
