-- `c_week::range_in` meets its contract.
use borrow.Author.Rules.{rules}
use mathlib.Core.Path.{◌≡◌, sym, ap, ap₂, ◌∙◌}
use mathlib.Core.Bool.{◌&&◌}
use native.Mathlib.Omega.{arith}
use Prim.Native.Nat.{ℕ}
use lib.IntN.{ℤ, pos, negsuc}
use mir.Syntax.{w32, w64}
use mir.Val.{to_z, of_z}
use mir.Facts.{to_z-of_z}
use Rattle.kit.specs.Integer.{between?}
use Rattle.kit.specs.Truth.{truth}
use Rattle.kit.proofs.TruthLaws.{truth_true, truth_false, both}
use Rattle.week_tally.specs.Figures.{from}
use Rattle.c_week.specs.WeekNumbers.{range_of}
use Rattle.c_week.proofs.RangeLaws.{Narrow, narrow?, narrow_fits, range_from, range_wide}
use Rattle.c_week.proofs.range_in.Statement.{statement}
use Rattle.c_week.proofs.range_in.Tie as tie

module _ (s : tie.Start) where
  low_is : to_z w64 (of_z w64 s.args.low) ≡ s.args.low
  low_is = to_z-of_z s.ranges.low

  high_is : to_z w64 (of_z w64 s.args.high) ≡ s.args.high
  high_is = to_z-of_z s.ranges.high

module _ (c : tie.After-between-2) where
  abbrev s : tie.Start
  s = c.before.before.before

  told : (c.between.result && c.between-2.result) ≡ truth (narrow? s.args.low s.args.high)
  told =
      both (between? (negsuc 2147483647) (pos 2147483647) s.args.low) (between? (negsuc 2147483647) (pos 2147483647) s.args.high)
      (rw (low_is s) at c.between.ensures) (rw (high_is s) at c.between-2.ensures)

is_narrow : (c : tie.Then-between) → Narrow (s c.before).args.low × Narrow (s c.before).args.high
is_narrow c = truth_true _ (sym (told c.before) ∙ c.if-between.true)

-- a number of 32 bits
kept : (z : ℤ) → to_z w64 (of_z w64 z) ≡ z → Narrow z → to_z w32 (of_z w32 (to_z w64 (of_z w64 z))) ≡ z
kept z e n = rw e (to_z-of_z (narrow_fits z n))

no-range-requires : tie.Need-no_range-requires
no-range-requires c κs = search rules

returns : tie.Need-returns-then-given-eq0
returns c =
    let s = c.before.before in
    (rw (low_is s, high_is s) at c.no_range.ensures) ∙ ap (λ (n : ℕ). range_of n s.args.low s.args.high) (omega (arith, c.if-given-eq0.true))

between-requires : tie.Need-between-requires
between-requires c κs = search rules

between-requires-2 : tie.Need-between-requires-2
between-requires-2 c κs = search rules

cast-t7 : tie.Need-overflow_cast-result
cast-t7 c = let a = s c.before in rw (low_is a) (narrow_fits a.args.low (is_narrow c).0)

cast-t8 : tie.Need-overflow_cast-result-then-between
cast-t8 c = let a = s c.before in rw (high_is a) (narrow_fits a.args.high (is_narrow c).1)

returns-2 : tie.Need-returns-then-between
returns-2 c =
    let a = s c.before in
    ap₂ from (kept a.args.low (low_is a) (is_narrow c).0) (kept a.args.high (high_is a) (is_narrow c).1)
    ∙ range_from a.args.low a.args.high a.args.given (λ e. omega (arith, e, c.if-given-eq0.false)) (is_narrow c)

returns-3 : tie.Need-returns
returns-3 c =
    let a = s c.before in
    range_wide a.args.low a.args.high a.args.given (λ e. omega (arith, e, c.if-given-eq0.false)) (truth_false _ (sym (told c.before) ∙ c.if-between.false))

pub range_in_spec : {M : Type 1} → statement M
range_in_spec = tie.close (tie.spec no-range-requires returns between-requires between-requires-2 cast-t7 cast-t8 returns-2 returns-3)
