use Rattle.join_lists.proofs.Copy.{third_copied}
use Rattle.join_lists.proofs.put_third.Goals as goal

pub returns : goal.returns
returns c =
    let x = c.args in
    third_copied x.k x.m x.n x.a.now x.b.now x.out.now c.requires x.kind c.blocks_before-at.result c.blocks_before-i.result c.blocks_before-j.result
    c.blocks_before-at.ensures c.blocks_before-i.ensures c.blocks_before-j.ensures _ _ c.copy_at.ensures c.copy_at-2.ensures
