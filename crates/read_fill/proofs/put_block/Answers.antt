use native.Mathlib.Omega.{arith}
use Rattle.read_fill.proofs.BlockLaws.{block_okay, block_put}
use Rattle.read_fill.proofs.put_block.Goals as goal

pub fill_block-requires : goal.fill_block-requires
fill_block-requires c =
    let b = c.before.before in
    let a = b.args in
    ((b.requires.0, omega arith), block_okay a.text.now a.at a.columns a.from a.area.now b.requires.1.0 b.requires.1.1)

pub returns : goal.returns
returns c =
    let b = c.before.before.before.before in
    let a = b.args in
    let f = c.fill_block in
    block_put a.text.now a.at a.columns a.from a.area.now b.requires.1.0 _ _ f.ensures f.auto.out
