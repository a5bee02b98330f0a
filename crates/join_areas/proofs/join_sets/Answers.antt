use Rattle.std.proofs.lemmas.Result.{err_from_is_err_and}
use Rattle.join_areas.proofs.StoreLaws.{ready, stored_is, refused_is}
use Rattle.join_areas.proofs.join_sets.Goals as goal

pub returns-in_err-judged : goal.returns-in_err-judged
returns-in_err-judged c =
    let p = err_from_is_err_and c.from_residual.result c.from_residual.ensures.1 in
    rw (p.1, p.2) (refused_is _ _ _ _ c.in_err-judged.ensures)

pub store-requires : goal.store-requires
store-requires c = ready _ _ c.in_ok-judged.ensures

pub returns : goal.returns
returns c = stored_is _ _ c.in_ok-judged.ensures _ _ _ c.store.ensures
