-- `program_line::put_reason` meets its contract.
use Rattle.program_line.proofs.ReasonLaws.{area_told, line_placed}
use Rattle.program_line.proofs.put_reason.Goals as goal

pub returns-then-r-eq11 : goal.returns-then-r-eq11
returns-then-r-eq11 c =
    let q = c.refusal_of-r.ensures in
    rw (← area_told _ _ _ c.args.reason q.0 q.1 c.if-r-eq11.true) c.put_area.ensures

pub returns : goal.returns
returns c =
    let q = c.refusal_of-r.ensures in
    rw (← line_placed _ _ _ c.args.reason q.0 q.1 c.if-r-eq11.false) c.put_place.ensures
