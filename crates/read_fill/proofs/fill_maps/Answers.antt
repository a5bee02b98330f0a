use native.Mathlib.Omega.{arith}
use mathlib.Core.Path.{ap, ◌∙◌}
use Prim.Native.Nat.{◌*◌}
use lib.ListN.{length, drop}
use lib.IntN.{negsuc}
use mir.Facts.{to_z-of_z}
use Rattle.mapset.specs.Areas.{six}
use Rattle.read_fill.proofs.Whole.{ready_cleared, values_there, all_filled}
use Rattle.areas.proofs.ListLaws.{fill_length}
use Rattle.read_fill.proofs.fill_maps.Goals as goal

pub scan-requires : goal.scan-requires
scan-requires c =
    let b = c.before.before.before.before.before.before.before.before.before.before.before.before.before.before.before.before.before.before.before in
    let a = b.args in
    let l = six a.tec.now a.rms.now a.height.now a.exponents.now a.epochs.now a.marks.now in
    let en = b.requires.enough in
    let p = c.prefill.ensures in
    let x = ap length p.exponents_after ∙ fill_length (negsuc 0) (3 * (a.size.maps * a.size.blocks)) a.exponents.now en.exponents in
    let y = ap length p.marks_after ∙ fill_length 0 a.size.maps a.marks.now en.marks in
    let m = b.requires.at_in_bounds.1 in
    let e = to_z-of_z b.ranges.exponent in
    record { stores_inside = rw e (ready_cleared a.size.maps a.size.blocks a.size.columns a.r a.t a.exponent (drop a.at a.text.now) l en m.0 m.1 p.rms_after p.height_after p.exponents_after p.marks_after); storable = (b.requires.at_in_bounds.0, values_there a.size.maps a.size.blocks a.size.columns a.r a.t a.exponent (drop a.at a.text.now) l en m.0 m.1, omega (arith, x, en.exponents), en.epochs, omega (arith, y, en.marks)) }

pub returns : goal.returns
returns c =
    let b = c.before.before.before.before.before.before.before.before.before.before.before.before.before.before.before.before.before.before.before.before.before.before.before.before.before.before.before.before in
    let a = b.args in
    let l = six a.tec.now a.rms.now a.height.now a.exponents.now a.epochs.now a.marks.now in
    let en = b.requires.enough in
    let p = c.prefill.ensures in
    λ m acc. all_filled a.size.maps a.size.blocks a.size.columns a.r a.t a.exponent (drop a.at a.text.now) l en m acc p.rms_after p.height_after p.exponents_after p.marks_after (rw (to_z-of_z b.ranges.exponent) at c.scan.ensures)
