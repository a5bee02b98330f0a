-- `valid::blank` meets its contract.
use mathlib.Core.Path.{sym, ◌∙◌}
use mir.Facts.{to_z-of_z}
use Rattle.kit.proofs.TruthLaws.{truth_true, truth_false}
use Rattle.valid.proofs.Judging.{blank_next, blank_stop, blank_end}
use Rattle.valid.proofs.blank.Goals as goal

pub returns-then-not-there_or : goal.returns-then-not-there_or
returns-then-not-there_or c =
    let a = c.args in
    let l = c.loop-mark in
    let i = rw (to_z-of_z c.ranges.v) at l.invariant in
    let t = rw (to_z-of_z c.ranges.v, c.split_at.ensures.front, c.min.ensures) at c.there_or.ensures in
    sym (blank_stop a.kind a.width a.v a.marks.now l.mark-index l.rest.now c.loop-mark-test.true (truth_false _ (sym t ∙ c.if-not-there_or.true))) ∙ i

pub loop-mark-preserved : goal.loop-mark-preserved
loop-mark-preserved c =
    let a = c.args in
    let l = c.loop-mark in
    let i = rw (to_z-of_z c.ranges.v) at l.invariant in
    let t = rw (to_z-of_z c.ranges.v, c.split_at.ensures.front, c.min.ensures) at c.there_or.ensures in
    rw (to_z-of_z c.ranges.v, c.split_at.ensures.back, c.min.ensures)
    (sym (blank_next a.kind a.width a.v a.marks.now l.mark-index l.rest.now c.loop-mark-test.true (truth_true _ (sym t ∙ c.if-not-there_or.false))) ∙ i)

pub returns : goal.returns
returns c =
    let a = c.args in
    let l = c.loop-mark in
    let i = rw (to_z-of_z c.ranges.v) at l.invariant in
    sym (blank_end a.kind a.width a.v a.marks.now l.mark-index l.rest.now c.loop-mark-test.false) ∙ i
