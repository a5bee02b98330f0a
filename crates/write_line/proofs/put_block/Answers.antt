-- `write_line::put_block` meets its contract.
use mathlib.Core.List.{◌∷◌}
use lib.ListN.{length}
use mir.Facts.{to_z-of_z}
use Rattle.layout.specs.Labels.{block}
use Rattle.canonical.specs.Canon.{row_of, value_rows, exponent_rows}
use Rattle.write_row.specs.Rows.{opening_of}
use Rattle.write_line.proofs.PutLaws.{room_front, room_behind, room_first, room_next, put_then, put_next}
use Rattle.write_line.proofs.put_block.Goals as goal

pub put_exponent-first-requires : goal.put_exponent-first-requires
put_exponent-first-requires c =
    let s = c.before.before.before in
    let xs = exponent_rows s.args.in_force s.args.exponent in
    let ys = row_of block (opening_of s.args.grid s.args.d) ∷ value_rows (length s.args.values.now) s.args.values.now in
    rw (to_z-of_z s.ranges.in_force, to_z-of_z s.ranges.exponent) (room_front xs ys s.requires.1)

pub put_line-second-requires : goal.put_line-second-requires
put_line-second-requires c =
    let s = c.before.before.before.before.before.before.before.before in
    let xs = exponent_rows s.args.in_force s.args.exponent in
    let ys = row_of block (opening_of s.args.grid s.args.d) ∷ value_rows (length s.args.values.now) s.args.values.now in
    let p = rw (to_z-of_z s.ranges.in_force, to_z-of_z s.ranges.exponent) at c.put_exponent-first.ensures in
    rw c.opening_row-opening.ensures (room_first (room_behind xs ys s.requires.1 p))

pub put_values-requires : goal.put_values-requires
put_values-requires c =
    let s = c.before.before.before.before.before.before.before.before.before.before.before.before in
    let xs = exponent_rows s.args.in_force s.args.exponent in
    let ys = row_of block (opening_of s.args.grid s.args.d) ∷ value_rows (length s.args.values.now) s.args.values.now in
    let p = rw (to_z-of_z s.ranges.in_force, to_z-of_z s.ranges.exponent) at c.put_exponent-first.ensures in
    let q = rw c.opening_row-opening.ensures at c.put_line-second.ensures in
    room_next (room_behind xs ys s.requires.1 p) q

pub returns : goal.returns
returns c =
    let s = c.before.before.before.before.before.before.before.before.before.before.before.before.before.before.before in
    let xs = exponent_rows s.args.in_force s.args.exponent in
    let ys = row_of block (opening_of s.args.grid s.args.d) ∷ value_rows (length s.args.values.now) s.args.values.now in
    let p = rw (to_z-of_z s.ranges.in_force, to_z-of_z s.ranges.exponent) at c.put_exponent-first.ensures in
    let q = rw c.opening_row-opening.ensures at c.put_line-second.ensures in
    put_then xs ys p (put_next q c.put_values.ensures)
