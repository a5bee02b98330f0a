use native.Mathlib.Omega.{arith}
use Rattle.read_blocks.proofs.BlockLaws.{filling_none, filling_okay, filling_more, filling_done, part_length}
use Rattle.read_blocks.proofs.fill_block.Goals as goal

pub loop-done-init : goal.loop-done-init
loop-done-init c = filling_none _ _ _ _ c.requires.0.0 c.requires.0.1

pub fill_step-requires : goal.fill_step-requires
fill_step-requires c =
    let l = c.loop-done in
    let i = l.invariant in
    let d = i.sized in
    let e = part_length l.out l.done _ d i.upto in
    ((i.moved.within, i.moved.small), (omega arith, filling_okay i c.requires.1 _ e))

pub loop-done-preserved : goal.loop-done-preserved
loop-done-preserved c =
    let l = c.loop-done in
    let i = l.invariant in
    let e = part_length l.out l.done _ i.sized i.upto in
    filling_more i _ _ _ _ e c.fill_step.auto.out c.in-Some.ensures

pub returns : goal.returns
returns c = let i = c.loop-done.invariant in let d = i.sized in filling_done i (omega arith)
