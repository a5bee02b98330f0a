-- `valid::all_between` meets its contract.
use borrow.Author.Rules.{rules}
use mathlib.Core.Path.{◌≡◌, sym, ◌∙◌}
use lib.IntN.{pos}
use lib.ListN.{get_or}
use mir.Syntax.{w32}
use mir.Val.{to_z, of_z}
use mir.Facts.{to_z-of_z}
use Rattle.kit.specs.Integer.{between?}
use Rattle.mapset.proofs.JudgedLaws.{between_tells}
use Rattle.mapset.proofs.SoundLaws.{each_next, each_end}
use Rattle.valid.proofs.all_between.Goals as goal

pub loop-z-preserved : goal.loop-z-preserved
loop-z-preserved c =
    let a = c.args in
    let l = c.loop-z in
    let z = get_or a.values.now l.z-index (pos 0) in
    let e : to_z w32 (of_z w32 z) ≡ z = search rules in
    let i = rw (to_z-of_z c.ranges.low, to_z-of_z c.ranges.high) at l.invariant in
    rw (to_z-of_z c.ranges.low, to_z-of_z c.ranges.high, e)
    (i ∙ each_next (pos 0) (between? a.low a.high) a.values.now l.z-index c.loop-z-test.true l.fits (between_tells a.low a.high z))

pub returns : goal.returns
returns c =
    let a = c.args in
    let l = c.loop-z in
    let i = rw (to_z-of_z c.ranges.low, to_z-of_z c.ranges.high) at l.invariant in
    sym (i ∙ each_end (pos 0) (between? a.low a.high) a.values.now l.z-index c.loop-z-test.false l.fits)
