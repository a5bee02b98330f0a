-- `write_head::put_times` meets its contract.
use native.Mathlib.Omega.{arith}
use Rattle.write_line.proofs.PutLaws.{room_first, room_next, put_next}
use Rattle.write_head.specs.Header.{times_rows}
use Rattle.write_head.proofs.put_times.Goals as goal

pub put_dated-a-requires : goal.put_dated-a-requires
unfolding times_rows
put_dated-a-requires c = let s = c.before.before in (omega arith, room_first s.requires.1)

pub put_dated-b-requires : goal.put_dated-b-requires
unfolding times_rows
put_dated-b-requires c = let s = c.before.before.before.before.before.before in (omega arith, room_first (room_next s.requires.1 c.put_dated-a.ensures))

pub put_count-c-requires : goal.put_count-c-requires
unfolding times_rows
put_count-c-requires c =
    let s = c.before.before.before.before.before.before.before.before.before.before in
    (omega arith, omega (arith, s.requires.0.1.1.0), room_first (room_next (room_next s.requires.1 c.put_dated-a.ensures) c.put_dated-b.ensures))

pub put_count-requires : goal.put_count-requires
unfolding times_rows
put_count-requires c =
    let s = c.before.before.before.before.before.before.before.before.before.before.before.before.before.before in
    (omega arith, omega (arith, s.requires.0.1.1.1), room_first (room_next (room_next (room_next s.requires.1 c.put_dated-a.ensures) c.put_dated-b.ensures) c.put_count-c.ensures))

pub returns : goal.returns
unfolding times_rows
returns c = put_next c.put_dated-a.ensures (put_next c.put_dated-b.ensures (put_next c.put_count-c.ensures c.put_count.ensures))
