-- `c_week::no_range` meets its contract.
use borrow.Author.Rules.{rules}
use mathlib.Core.Path.{◌≡◌, sym, ◌∙◌}
use mathlib.Core.Bool.{◌&&◌}
use lib.IntN.{pos}
use mir.Facts.{to_z-of_z}
use Rattle.kit.specs.Integer.{between?}
use Rattle.kit.specs.Truth.{truth}
use Rattle.kit.proofs.TruthLaws.{truth_true, truth_false, both}
use Rattle.c_week.proofs.RangeLaws.{still?, range_none, range_unfit}
use Rattle.c_week.proofs.no_range.Statement.{statement}
use Rattle.c_week.proofs.no_range.Tie as tie

module _ (c : tie.After-between-2) where
  abbrev s : tie.Start
  s = c.before.before

  told : (c.between.result && c.between-2.result) ≡ truth (still? s.args.low s.args.high)
  told =
      both (between? (pos 0) (pos 0) s.args.low) (between? (pos 0) (pos 0) s.args.high)
      (rw (to_z-of_z s.ranges.low) at c.between.ensures) (rw (to_z-of_z s.ranges.high) at c.between-2.ensures)

between-requires : tie.Need-between-requires
between-requires c κs = search rules

between-requires-2 : tie.Need-between-requires-2
between-requires-2 c κs = search rules

returns : tie.Need-returns-then-between
returns c = range_none _ _ (truth_true _ (sym (told c.before) ∙ c.if-between.true))

returns-2 : tie.Need-returns
returns-2 c = range_unfit _ _ (truth_false _ (sym (told c.before) ∙ c.if-between.false))

pub no_range_spec : {M : Type 1} → statement M
no_range_spec = tie.close (tie.spec between-requires between-requires-2 returns returns-2)
