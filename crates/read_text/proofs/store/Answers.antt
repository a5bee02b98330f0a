use mathlib.Core.Path.{◌≡◌, sym, ap, ◌∙◌}
use mir.Syntax.{w32}
use mir.Val.{to_z, of_z}
use Rattle.mapset.specs.Areas.{six}
use Rattle.read_needs.specs.Needs.{fit}
use Rattle.read_judge.proofs.NeedLaws.{limits, few_by}
use Rattle.read_text.proofs.StoreLaws.{short_by, readable_by, enough_by, stored_by}
use borrow.Author.Rules.{rules}
use Rattle.read_text.proofs.store.Goals as goal

pub size_of-size-requires : goal.size_of-size-requires
size_of-size-requires c = limits _ _ _ _ _ _ c.requires

pub needed-need-requires : goal.needed-need-requires
needed-need-requires c =
    let z = c.size_of-size.ensures in
    few_by _ _ _ _ _ _ c.requires z.0 z.1 z.2

pub fill_maps-requires : goal.fill_maps-requires
fill_maps-requires c =
    let a = c.args in
    let z = c.size_of-size.ensures in
    let l = six a.tec.now a.rms.now a.height.now a.exponents.now a.epochs.now a.marks.now in
    let e = sym c.room_for.ensures ∙ ap fit c.in-Ok.is in
    let x : to_z w32 (of_z w32 a.scan.exponent) ≡ a.scan.exponent = search rules in
    rw x (record {
      at_in_bounds = (c.requires.within, (_, readable_by _ _ _ _ _ _ c.requires z.0 z.1 z.2 c.needed-need.ensures));
      enough = enough_by _ _ _ _ _ _ c.requires z.0 z.1 z.2 c.needed-need.ensures l e;
    })

pub returns-in-Err : goal.returns-in-Err
returns-in-Err c =
    let a = c.args in
    let z = c.size_of-size.ensures in
    let l = six a.tec.now a.rms.now a.height.now a.exponents.now a.epochs.now a.marks.now in
    let e = sym c.room_for.ensures ∙ ap fit c.in-Err.is in
    let f = c.refused.ensures in
    rw (f.0, f.1) (short_by _ _ _ _ _ _ c.requires z.0 z.1 z.2 c.needed-need.ensures l _ _ e)

pub returns-in-Ok : goal.returns-in-Ok
returns-in-Ok c =
    let a = c.args in
    let z = c.size_of-size.ensures in
    let l = six a.tec.now a.rms.now a.height.now a.exponents.now a.epochs.now a.marks.now in
    let e = sym c.room_for.ensures ∙ ap fit c.in-Ok.is in
    let x : to_z w32 (of_z w32 a.scan.exponent) ≡ a.scan.exponent = search rules in
    stored_by _ _ _ _ _ _ c.requires z.0 z.1 z.2 c.needed-need.ensures l e _ (rw x at c.fill_maps.ensures)
