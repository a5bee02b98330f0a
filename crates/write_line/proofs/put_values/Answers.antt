-- `write_line::put_values` meets its contract.
use native.Mathlib.Omega.{arith}
use Rattle.write_line.proofs.PutLaws.{room_first, leads_next}
use Rattle.write_line.proofs.BlockLaws.{values_more, values_last}
use Rattle.write_line.proofs.put_values.Goals as goal

pub put_row-next-requires : goal.put_row-next-requires
put_row-next-requires c =
    let l = c.loop-rest in
    let s = c.split_at.ensures in
    let i = rw (values_more l.rest.now c.loop-rest-test.true) at (l.invariant.room c.requires) in
    (omega (arith, s.front_len), rw s.front (room_first i))

pub loop-rest-preserved : goal.loop-rest-preserved
loop-rest-preserved c =
    let l = c.loop-rest in
    let s = c.split_at.ensures in
    let i = rw (values_more l.rest.now c.loop-rest-test.true) at l.invariant in
    rw s.back (leads_next i (rw s.front at c.put_row-next.ensures))

pub put_row-requires : goal.put_row-requires
put_row-requires c =
    let l = c.loop-rest in
    (c.loop-rest-test.false, rw (values_last l.rest.now c.loop-rest-test.false) at (l.invariant.room c.requires))

pub returns : goal.returns
returns c =
    let l = c.loop-rest in
    l.invariant.rest _ _ (rw (values_last l.rest.now c.loop-rest-test.false) c.put_row.ensures)
