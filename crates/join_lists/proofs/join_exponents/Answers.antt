use Rattle.join_lists.proofs.Copy.{three_kinds}
use Rattle.join_lists.proofs.join_exponents.Goals as goal

pub returns : goal.returns
returns c =
    let x = c.args in
    three_kinds x.k x.m x.n x.a.now x.b.now x.out.now c.requires _ _ _ c.put_third.ensures c.put_third-2.ensures c.put_third-3.ensures
