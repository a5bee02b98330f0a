-- `write_line::put_start` meets its contract.
use mathlib.Core.Path.{◌≡◌}
use native.Mathlib.Omega.{arith}
use Prim.Native.Nat.{◌<◌}
use lib.IntN.{pos}
use mir.Syntax.{w32}
use mir.Val.{to_z}
use mir.Facts.{to_z_pos}
use Rattle.write_line.proofs.Bounds.{start_row, start_within}
use Rattle.write_line.proofs.put_start.Goals as goal

pub put_number-requires : goal.put_number-requires
put_number-requires c =
    let k = c.start_label-k.ensures in
    let s = c.args in
    let z : to_z w32 s.number ≡ pos s.number = to_z_pos w32 (omega arith) in
    let b : c.start_label-k.result < 32 = omega (arith, k, start_within s.kind) in
    (b, rw (z, k, start_row s.kind (pos s.number)) c.requires.1)

pub returns : goal.returns
returns c =
    let s = c.args in
    let z : to_z w32 s.number ≡ pos s.number = to_z_pos w32 (omega arith) in
    rw (z, c.start_label-k.ensures, start_row s.kind (pos s.number)) at c.put_number.ensures
