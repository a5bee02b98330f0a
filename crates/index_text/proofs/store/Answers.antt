use mathlib.Core.Path.{sym, ap, ◌∙◌}
use Rattle.read_needs.specs.Needs.{fit}
use Rattle.index.specs.Index.{entries}
use Rattle.index_text.proofs.MakeLaws.{limits, few_by, short_by, steady_by, made_by}
use Rattle.index_text.proofs.store.Goals as goal

pub size_of-size-requires : goal.size_of-size-requires
size_of-size-requires c = limits _ _ _ c.requires

pub room_for-requires : goal.room_for-requires
room_for-requires c =
    let a = c.args in
    let z = c.size_of-size.ensures in
    few_by _ _ _ c.requires z.0 z.1 z.2 (entries a.positions.now a.exponents.now a.marks.now)

pub enter_all-requires : goal.enter_all-requires
enter_all-requires c =
    let a = c.args in
    let z = c.size_of-size.ensures in
    steady_by _ _ _ c.requires z.0 z.1 z.2 (entries a.positions.now a.exponents.now a.marks.now) (sym c.room_for.ensures ∙ ap fit c.in-Ok.is)

pub returns-in-Err : goal.returns-in-Err
returns-in-Err c =
    let a = c.args in
    let z = c.size_of-size.ensures in
    let f = c.refused.ensures in
    rw (f.0, f.1) (short_by _ _ _ c.requires z.0 z.1 z.2 (entries a.positions.now a.exponents.now a.marks.now) _ _ (sym c.room_for.ensures ∙ ap fit c.in-Err.is))

pub returns-in-Ok : goal.returns-in-Ok
returns-in-Ok c =
    let a = c.args in
    let z = c.size_of-size.ensures in
    made_by _ _ _ c.requires z.0 z.1 z.2 (entries a.positions.now a.exponents.now a.marks.now) (sym c.room_for.ensures ∙ ap fit c.in-Ok.is) _ c.enter_all.ensures
