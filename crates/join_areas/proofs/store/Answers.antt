use Rattle.std.proofs.Common.{sym, ap, ◌∙◌}
use Rattle.std.proofs.lemmas.Result.{err_from_is_err_and}
use Rattle.read_needs.specs.Needs.{fit}
use Rattle.join_areas.proofs.Stored.{few, short_put, fillable_by, done_put}
use Rattle.join_areas.proofs.store.Goals as goal

pub needed-need-requires : goal.needed-need-requires
needed-need-requires c =
    let z = c.size_of-size.ensures in
    few c.args.early c.args.late c.joined_header-header.ensures z.0 z.1 z.2 c.requires.limits

-- where no area is too short, what is lent is at least what is needed
pub fill_all-requires : goal.fill_all-requires
fill_all-requires c =
    let z = c.size_of-size.ensures in
    fillable_by c.args.early c.args.late c.joined_header-header.ensures z.0 z.1 z.2 _ _ _ c.left.ensures c.needed-need.ensures (sym c.room_for.ensures ∙ ap fit c.in_ok-room_for.was) c.requires

pub returns-in_err-room_for : goal.returns-in_err-room_for
returns-in_err-room_for c =
    let z = c.size_of-size.ensures in
    let p = err_from_is_err_and c.from_residual.result c.from_residual.ensures.1 in
    rw (p.1, p.2) (short_put c.args.early c.args.late c.joined_header-header.ensures z.0 z.1 z.2 _ _ _ c.left.ensures c.needed-need.ensures _ _ (sym c.room_for.ensures ∙ ap fit c.in_err-room_for.was))

pub returns : goal.returns
returns c =
    let z = c.size_of-size.ensures in
    done_put c.args.early c.args.late c.joined_header-header.ensures z.0 z.1 z.2 _ _ _ c.left.ensures c.needed-need.ensures (sym c.room_for.ensures ∙ ap fit c.in_ok-room_for.was) _ c.fill_all.ensures
