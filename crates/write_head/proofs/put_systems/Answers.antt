-- `write_head::put_systems` meets its contract.
-- the rows of the last systems
use mathlib.Core.List.{List, ◌++◌}
use Prim.Native.Nat.{ℕ}
use native.Mathlib.Omega.{arith}
use Rattle.mapset.specs.declared.Systems.{Systems}
use Rattle.write_line.proofs.PutLaws.{room_front, room_behind, put_then}
use Rattle.write_head.specs.Header.{system_rows, systems_rows}
use Rattle.write_head.proofs.Laws.{count_small}
use Rattle.write_head.proofs.put_systems.Goals as goal

abbrev last_1 : Systems → List (List ℕ)
last_1 y = system_rows 6 y.s

abbrev last_2 : Systems → List (List ℕ)
last_2 y = system_rows 5 y.i ++ last_1 y

abbrev last_3 : Systems → List (List ℕ)
last_3 y = system_rows 4 y.j ++ last_2 y

abbrev last_4 : Systems → List (List ℕ)
last_4 y = system_rows 3 y.c ++ last_3 y

abbrev last_5 : Systems → List (List ℕ)
last_5 y = system_rows 2 y.e ++ last_4 y

abbrev last_6 : Systems → List (List ℕ)
last_6 y = system_rows 1 y.r ++ last_5 y

pub put_system-a-requires : goal.put_system-a-requires
unfolding systems_rows
put_system-a-requires c =
    let s = c.before.before in
    let y = s.args.s in
    let m0 = s.requires.1 in
    (omega arith, count_small y.g.stands y.g.stations s.requires.0.0.0, count_small y.g.stands y.g.satellites s.requires.0.0.1, room_front (system_rows 0 y.g) (last_6 y) m0)

pub put_system-b-requires : goal.put_system-b-requires
unfolding systems_rows
put_system-b-requires c =
    let s = c.before.before.before.before.before.before in
    let y = s.args.s in
    let m0 = s.requires.1 in
    let m1 = room_behind (system_rows 0 y.g) (last_6 y) m0 c.put_system-a.ensures in
    (omega arith, count_small y.r.stands y.r.stations s.requires.0.1.0.0, count_small y.r.stands y.r.satellites s.requires.0.1.0.1, room_front (system_rows 1 y.r) (last_5 y) m1)

pub put_system-c-requires : goal.put_system-c-requires
unfolding systems_rows
put_system-c-requires c =
    let s = c.before.before.before.before.before.before.before.before.before.before in
    let y = s.args.s in
    let m0 = s.requires.1 in
    let m1 = room_behind (system_rows 0 y.g) (last_6 y) m0 c.put_system-a.ensures in
    let m2 = room_behind (system_rows 1 y.r) (last_5 y) m1 c.put_system-b.ensures in
    (omega arith, count_small y.e.stands y.e.stations s.requires.0.1.1.0.0, count_small y.e.stands y.e.satellites s.requires.0.1.1.0.1, room_front (system_rows 2 y.e) (last_4 y) m2)

pub put_system-d-requires : goal.put_system-d-requires
unfolding systems_rows
put_system-d-requires c =
    let s = c.before.before.before.before.before.before.before.before.before.before.before.before.before.before in
    let y = s.args.s in
    let m0 = s.requires.1 in
    let m1 = room_behind (system_rows 0 y.g) (last_6 y) m0 c.put_system-a.ensures in
    let m2 = room_behind (system_rows 1 y.r) (last_5 y) m1 c.put_system-b.ensures in
    let m3 = room_behind (system_rows 2 y.e) (last_4 y) m2 c.put_system-c.ensures in
    (omega arith, count_small y.c.stands y.c.stations s.requires.0.1.1.1.0.0, count_small y.c.stands y.c.satellites s.requires.0.1.1.1.0.1, room_front (system_rows 3 y.c) (last_3 y) m3)

pub put_system-e-requires : goal.put_system-e-requires
unfolding systems_rows
put_system-e-requires c =
    let s = c.before.before.before.before.before.before.before.before.before.before.before.before.before.before.before.before.before.before in
    let y = s.args.s in
    let m0 = s.requires.1 in
    let m1 = room_behind (system_rows 0 y.g) (last_6 y) m0 c.put_system-a.ensures in
    let m2 = room_behind (system_rows 1 y.r) (last_5 y) m1 c.put_system-b.ensures in
    let m3 = room_behind (system_rows 2 y.e) (last_4 y) m2 c.put_system-c.ensures in
    let m4 = room_behind (system_rows 3 y.c) (last_3 y) m3 c.put_system-d.ensures in
    (omega arith, count_small y.j.stands y.j.stations s.requires.0.1.1.1.1.0.0, count_small y.j.stands y.j.satellites s.requires.0.1.1.1.1.0.1, room_front (system_rows 4 y.j) (last_2 y) m4)

pub put_system-f-requires : goal.put_system-f-requires
unfolding systems_rows
put_system-f-requires c =
    let s = c.before.before.before.before.before.before.before.before.before.before.before.before.before.before.before.before.before.before.before.before.before.before in
    let y = s.args.s in
    let m0 = s.requires.1 in
    let m1 = room_behind (system_rows 0 y.g) (last_6 y) m0 c.put_system-a.ensures in
    let m2 = room_behind (system_rows 1 y.r) (last_5 y) m1 c.put_system-b.ensures in
    let m3 = room_behind (system_rows 2 y.e) (last_4 y) m2 c.put_system-c.ensures in
    let m4 = room_behind (system_rows 3 y.c) (last_3 y) m3 c.put_system-d.ensures in
    let m5 = room_behind (system_rows 4 y.j) (last_2 y) m4 c.put_system-e.ensures in
    (omega arith, count_small y.i.stands y.i.stations s.requires.0.1.1.1.1.1.0.0, count_small y.i.stands y.i.satellites s.requires.0.1.1.1.1.1.0.1, room_front (system_rows 5 y.i) (last_1 y) m5)

pub put_system-requires : goal.put_system-requires
unfolding systems_rows
put_system-requires c =
    let s = c.before.before.before.before.before.before.before.before.before.before.before.before.before.before.before.before.before.before.before.before.before.before.before.before.before.before in
    let y = s.args.s in
    let m0 = s.requires.1 in
    let m1 = room_behind (system_rows 0 y.g) (last_6 y) m0 c.put_system-a.ensures in
    let m2 = room_behind (system_rows 1 y.r) (last_5 y) m1 c.put_system-b.ensures in
    let m3 = room_behind (system_rows 2 y.e) (last_4 y) m2 c.put_system-c.ensures in
    let m4 = room_behind (system_rows 3 y.c) (last_3 y) m3 c.put_system-d.ensures in
    let m5 = room_behind (system_rows 4 y.j) (last_2 y) m4 c.put_system-e.ensures in
    let m6 = room_behind (system_rows 5 y.i) (last_1 y) m5 c.put_system-f.ensures in
    (omega arith, count_small y.s.stands y.s.stations s.requires.0.1.1.1.1.1.1.0, count_small y.s.stands y.s.satellites s.requires.0.1.1.1.1.1.1.1, m6)

pub returns : goal.returns
unfolding systems_rows
returns c =
    let s = c.before.before.before.before.before.before.before.before.before.before.before.before.before.before.before.before.before.before.before.before.before.before.before.before.before.before.before.before.before in
    let y = s.args.s in
    let p5 = put_then (system_rows 5 y.i) (last_1 y) c.put_system-f.ensures c.put_system.ensures in
    let p4 = put_then (system_rows 4 y.j) (last_2 y) c.put_system-e.ensures p5 in
    let p3 = put_then (system_rows 3 y.c) (last_3 y) c.put_system-d.ensures p4 in
    let p2 = put_then (system_rows 2 y.e) (last_4 y) c.put_system-c.ensures p3 in
    let p1 = put_then (system_rows 1 y.r) (last_5 y) c.put_system-b.ensures p2 in
    put_then (system_rows 0 y.g) (last_6 y) c.put_system-a.ensures p1
