-- `write_head::put_middle` meets its contract.
use native.Mathlib.Omega.{arith}
use Rattle.write_line.proofs.PutLaws.{room_first, room_next, room_front, room_behind, put_next, put_then}
use Rattle.write_head.specs.Header.{counted_rows, middle_rows}
use Rattle.write_head.proofs.Laws.{count_small}
use Rattle.write_head.proofs.put_middle.Goals as goal

pub put_line-a-requires : goal.put_line-a-requires
unfolding middle_rows
put_line-a-requires c =
    let s = c.before.before.before.before.before in
    let m0 = s.requires.1 in
    rw c.mapping_row-mapping.ensures (room_first m0)

pub put_tenths-b-requires : goal.put_tenths-b-requires
unfolding middle_rows
put_tenths-b-requires c =
    let s = c.before.before.before.before.before.before.before.before.before in
    let m0 = s.requires.1 in
    let p1 = rw c.mapping_row-mapping.ensures at c.put_line-a.ensures in
    let m1 = room_next m0 p1 in
    (omega arith, omega (arith, s.requires.0.0.0.1), room_first m1)

pub put_line-c-requires : goal.put_line-c-requires
unfolding middle_rows
put_line-c-requires c =
    let s = c.before.before.before.before.before.before.before.before.before.before.before.before.before.before in
    let m0 = s.requires.1 in
    let p1 = rw c.mapping_row-mapping.ensures at c.put_line-a.ensures in
    let m1 = room_next m0 p1 in
    let p2 = c.put_tenths-b.ensures in
    let m2 = room_next m1 p2 in
    rw c.observables_row-observables.ensures (room_first m2)

pub put_counted-d-requires : goal.put_counted-d-requires
unfolding middle_rows
put_counted-d-requires c =
    let s = c.before.before.before.before.before.before.before.before.before.before.before.before.before.before.before.before.before.before in
    let m0 = s.requires.1 in
    let p1 = rw c.mapping_row-mapping.ensures at c.put_line-a.ensures in
    let m1 = room_next m0 p1 in
    let p2 = c.put_tenths-b.ensures in
    let m2 = room_next m1 p2 in
    let p3 = rw c.observables_row-observables.ensures at c.put_line-c.ensures in
    let m3 = room_next m2 p3 in
    (omega arith, count_small s.args.header.stations.stands s.args.header.stations.count s.requires.0.1.0, room_front (counted_rows 11 s.args.header.stations) (counted_rows 12 s.args.header.satellites) m3)

pub put_counted-requires : goal.put_counted-requires
unfolding middle_rows
put_counted-requires c =
    let s = c.before.before.before.before.before.before.before.before.before.before.before.before.before.before.before.before.before.before.before.before.before.before in
    let m0 = s.requires.1 in
    let p1 = rw c.mapping_row-mapping.ensures at c.put_line-a.ensures in
    let m1 = room_next m0 p1 in
    let p2 = c.put_tenths-b.ensures in
    let m2 = room_next m1 p2 in
    let p3 = rw c.observables_row-observables.ensures at c.put_line-c.ensures in
    let m3 = room_next m2 p3 in
    let p4 = c.put_counted-d.ensures in
    (omega arith, count_small s.args.header.satellites.stands s.args.header.satellites.count s.requires.0.1.1, room_behind (counted_rows 11 s.args.header.stations) (counted_rows 12 s.args.header.satellites) m3 p4)

pub returns : goal.returns
unfolding middle_rows
returns c =
    let s = c.before.before.before.before.before.before.before.before.before.before.before.before.before.before.before.before.before.before.before.before.before.before.before.before.before in
    let m0 = s.requires.1 in
    let p1 = rw c.mapping_row-mapping.ensures at c.put_line-a.ensures in
    let m1 = room_next m0 p1 in
    let p2 = c.put_tenths-b.ensures in
    let m2 = room_next m1 p2 in
    let p3 = rw c.observables_row-observables.ensures at c.put_line-c.ensures in
    let m3 = room_next m2 p3 in
    let p4 = c.put_counted-d.ensures in
    put_next p1 (put_next p2 (put_next p3 (put_then (counted_rows 11 s.args.header.stations) (counted_rows 12 s.args.header.satellites) p4 c.put_counted.ensures)))
