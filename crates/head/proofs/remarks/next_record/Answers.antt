use Rattle.head.proofs.PastLaws.{past_more}
use Rattle.head.proofs.remarks.next_record.Goals as goal

pub loop-start-preserved : goal.loop-start-preserved
loop-start-preserved c =
    past_more _ _ _ _ _ _ c.loop-start.invariant _ _ _ _ c.in-Row.ensures c.is_remark.result c.if-not-is_remark.false c.is_remark.ensures
