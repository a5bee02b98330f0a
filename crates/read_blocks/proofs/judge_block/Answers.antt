use native.Mathlib.Omega.{arith}
use Rattle.std.proofs.lemmas.Result.{err_from_is_err_and}
use Rattle.read_blocks.proofs.BlockLaws.{moved_none, moved_more, moved_stop, moved_done}
use Rattle.read_blocks.proofs.judge_block.Goals as goal

pub loop-left-init : goal.loop-left-init
loop-left-init c = moved_none _ _ _ _ (omega arith) (omega arith)

pub loop-left-preserved : goal.loop-left-preserved
loop-left-preserved c = moved_more c.loop-left.invariant c.in_ok-step.ensures.1

pub returns-in_err-step : goal.returns-in_err-step
returns-in_err-step c =
    let p = err_from_is_err_and c.from_residual.result c.from_residual.ensures.1 in
    rw (p.1, p.2) (moved_stop c.loop-left.invariant c.in_err-step.ensures)

pub returns : goal.returns
returns c = moved_done c.loop-left.invariant (omega arith)
