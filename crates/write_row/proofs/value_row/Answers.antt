-- The values of a row: the first i stand in it, then blanks.
use mathlib.Core.Path.{refl, ◌∙◌}
use lib.IntN.{pos}
use lib.ListN.{get_or}
use mir.Syntax.{w32}
use mir.Val.{SFits}
use mir.Facts.{to_z-of_z}
use borrow.Author.Rules.{rules}
use Rattle.canonical.specs.Canon.{cells_of}
use Rattle.write_row.proofs.RowLaws.{value_next, value_done}
use Rattle.write_row.proofs.value_row.Goals as goal

pub loop-i-init : goal.loop-i-init
loop-i-init c = unfold cells_of in refl

pub loop-i-preserved : goal.loop-i-preserved
loop-i-preserved c =
    let l = c.loop-i in
    let f : SFits w32 (get_or c.args.values.now l.i (pos 0)) = search rules in
    c.put_int.ensures ∙ rw (to_z-of_z f) (value_next c.args.values.now l.row l.i c.loop-i-test.true c.requires l.invariant)

pub returns : goal.returns
returns c = value_done _ c.loop-i.row c.loop-i.i c.loop-i-test.false c.loop-i.auto.i-end c.loop-i.invariant
