use mathlib.Core.Path.{ap, ◌∙◌}
use Prim.Native.Nat.{◌<◌}
use native.Mathlib.Omega.{arith}
use lib.ListN.{length}
use mir.Facts.{to_z-of_z}
use borrow.Author.Rules.{rules}
use Rattle.areas.specs.Stores.{scanned}
use Rattle.areas.specs.Scan.{at_first, brought}
use Rattle.read_fill.specs.Rows.{rows_from}
use Rattle.mapset.specs.Areas.{six}
use Rattle.read_fill.proofs.Going.{going_start, going_sized, going_turned, going_more, going_done, inside_now, lighter}
use Rattle.read_fill.proofs.scan.Goals as goal

pub loop-at-init : goal.loop-at-init
loop-at-init c = let b = c.before.before.before in going_start b.args.exponent _ (to_z-of_z b.ranges.exponent) b.requires.storable.0 b.requires.storable.1 b.requires.stores_inside

pub step_at-step-requires : goal.step_at-step-requires
step_at-step-requires c =
    let b = c.before.before.before.before.before in
    let g = c.loop-at.invariant in
    let x : length b.args.epochs.now < 9223372036854775808 = search rules in
    let y : length b.args.exponents.now < 9223372036854775808 = search rules in
    (c.loop-at-test.true, (omega (arith, g.small.0, b.requires.storable.3, x), omega (arith, g.small.1, b.requires.storable.2, y)))

pub store-at-requires : goal.store-at-requires
store-at-requires c =
    let b = c.before.before.before.before.before.before.before.before.before.before.before.before in
    let g = c.loop-at.invariant in
    let a = going_turned g c.step_at-step.ensures in
    let z = going_sized g in
    record { stores_inside = inside_now g c.step_at-step.ensures; storable = (a.within, a.valued, omega (arith, z.exponents, b.requires.storable.2), omega (arith, z.epochs, b.requires.storable.3), omega (arith, z.marks, b.requires.storable.4)) }

pub loop-at-smaller : goal.loop-at-smaller
loop-at-smaller c = lighter c.step_at-step.ensures c.store-at.ensures.resumed

pub loop-at-preserved : goal.loop-at-preserved
loop-at-preserved c = going_more (going_turned c.loop-at.invariant c.step_at-step.ensures) c.store-at.ensures.marks_after c.store-at.ensures.resumed

pub shape_of-tec : goal.shape_of-tec
shape_of-tec c = (going_sized c.loop-at.invariant).tec

pub shape_of-rms : goal.shape_of-rms
shape_of-rms c = (going_sized c.loop-at.invariant).rms

pub shape_of-height : goal.shape_of-height
shape_of-height c = (going_sized c.loop-at.invariant).height

pub shape_of-exponents : goal.shape_of-exponents
shape_of-exponents c = (going_sized c.loop-at.invariant).exponents

pub shape_of-epochs : goal.shape_of-epochs
shape_of-epochs c = (going_sized c.loop-at.invariant).epochs

pub shape_of-marks : goal.shape_of-marks
shape_of-marks c = (going_sized c.loop-at.invariant).marks

pub returns : goal.returns
returns c =
    let b = c.before.before.before.before.before in
    let a = b.args in
    going_done c.loop-at.invariant (omega arith)
    ∙ ap (λ e. scanned a.size.maps a.size.blocks a.size.columns (brought a.size.columns (at_first e) 0 (rows_from a.text.now a.from)) (six a.tec.now a.rms.now a.height.now a.exponents.now a.epochs.now a.marks.now)) (to_z-of_z b.ranges.exponent)
