-- `write_head::put_last` meets its contract.
use native.Mathlib.Omega.{arith}
use Rattle.layout.specs.Names.{names}
use Rattle.canonical.specs.Canon.{columns_of}
use Rattle.write_line.proofs.PutLaws.{room_first, room_next, put_next}
use Rattle.write_row.specs.Rows.{row_at}
use Rattle.write_head.specs.Header.{last_rows}
use Rattle.write_head.proofs.put_last.Goals as goal

pub put_tenths-a-requires : goal.put_tenths-a-requires
unfolding last_rows
put_tenths-a-requires c =
    let s = c.before.before.before in
    let m0 = s.requires.1 in
    (omega arith, omega (arith, s.requires.0.1.0.1), room_first m0)

pub put_count-b-requires : goal.put_count-b-requires
unfolding last_rows
put_count-b-requires c =
    let s = c.before.before.before.before.before.before.before in
    let m0 = s.requires.1 in
    let p1 = c.put_tenths-a.ensures in
    let m1 = room_next m0 p1 in
    (omega arith, omega (arith, s.requires.0.1.1.1), room_first m1)

pub put_axis-c-requires : goal.put_axis-c-requires
unfolding last_rows
put_axis-c-requires c =
    let s = c.before.before.before.before.before.before.before.before.before.before.before in
    let m0 = s.requires.1 in
    let p1 = c.put_tenths-a.ensures in
    let m1 = room_next m0 p1 in
    let p2 = c.put_count-b.ensures in
    let m2 = room_next m1 p2 in
    (omega arith, room_first m2)

pub put_axis-d-requires : goal.put_axis-d-requires
unfolding last_rows
put_axis-d-requires c =
    let s = c.before.before.before.before.before.before.before.before.before.before.before.before.before.before.before in
    let m0 = s.requires.1 in
    let p1 = c.put_tenths-a.ensures in
    let m1 = room_next m0 p1 in
    let p2 = c.put_count-b.ensures in
    let m2 = room_next m1 p2 in
    let p3 = c.put_axis-c.ensures in
    let m3 = room_next m2 p3 in
    (omega arith, room_first m3)

pub put_axis-e-requires : goal.put_axis-e-requires
unfolding last_rows
put_axis-e-requires c =
    let s = c.before.before.before.before.before.before.before.before.before.before.before.before.before.before.before.before.before.before.before in
    let m0 = s.requires.1 in
    let p1 = c.put_tenths-a.ensures in
    let m1 = room_next m0 p1 in
    let p2 = c.put_count-b.ensures in
    let m2 = room_next m1 p2 in
    let p3 = c.put_axis-c.ensures in
    let m3 = room_next m2 p3 in
    let p4 = c.put_axis-d.ensures in
    let m4 = room_next m3 p4 in
    (omega arith, room_first m4)

pub put_line-requires : goal.put_line-requires
unfolding last_rows row_at columns_of names
put_line-requires c =
    let s = c.before.before.before.before.before.before.before.before.before.before.before.before.before.before.before.before.before.before.before.before.before.before.before.before in
    let m0 = s.requires.1 in
    let p1 = c.put_tenths-a.ensures in
    let m1 = room_next m0 p1 in
    let p2 = c.put_count-b.ensures in
    let m2 = room_next m1 p2 in
    let p3 = c.put_axis-c.ensures in
    let m3 = room_next m2 p3 in
    let p4 = c.put_axis-d.ensures in
    let m4 = room_next m3 p4 in
    let p5 = c.put_axis-e.ensures in
    let m5 = room_next m4 p5 in
    rw c.blank_row-end.ensures (room_first m5)

pub returns : goal.returns
unfolding last_rows row_at columns_of names
returns c =
    let s = c.before.before.before.before.before.before.before.before.before.before.before.before.before.before.before.before.before.before.before.before.before.before.before.before.before.before.before in
    let m0 = s.requires.1 in
    let p1 = c.put_tenths-a.ensures in
    let m1 = room_next m0 p1 in
    let p2 = c.put_count-b.ensures in
    let m2 = room_next m1 p2 in
    let p3 = c.put_axis-c.ensures in
    let m3 = room_next m2 p3 in
    let p4 = c.put_axis-d.ensures in
    let m4 = room_next m3 p4 in
    let p5 = c.put_axis-e.ensures in
    let m5 = room_next m4 p5 in
    let p6 = rw c.blank_row-end.ensures at c.put_line.ensures in
    put_next p1 (put_next p2 (put_next p3 (put_next p4 (put_next p5 p6))))
