-- `ask_cells::offset` meets its contract.
use native.Mathlib.Omega.{arith}
use native.Mathlib.Nat.{mul-le-mul}
use mathlib.Core.Path.{◌≡◌}
use Prim.Native.Nat.{◌*◌, ◌≤◌, ◌^◌}
use lib.IntN.{pos, nat_abs, ◌-ℤ◌, ◌*ℤ◌}
use mir.Syntax.{w32, w64}
use mir.Val.{to_z, of_z, SFits}
use mir.Facts.{to_z-of_z, to_z_pos, sfits_widen}
use Rattle.kit.proofs.Parts.{abs_scale, size_fits, size_of_fits}
use Rattle.ask_cells.proofs.PlaceLaws.{offset_size}
use Rattle.ask_cells.proofs.offset.Goals as goal

pub returns : goal.returns
returns c =
    let a = c.args in
    let back : to_z w64 (of_z w64 a.p) ≡ a.p = to_z-of_z c.ranges.p in
    let wide : to_z w64 (of_z w64 (to_z w32 (of_z w32 a.o))) ≡ a.o = rw (to_z-of_z c.ranges.o) (to_z-of_z {w = w64} (sfits_widen (tt {0}) c.ranges.o)) in
    let size : a.unit * nat_abs a.o ≤ 120 * 2 ^ 31 = mul-le-mul c.requires.1 (size_of_fits w32 a.o c.ranges.o) in
    let few : to_z w64 a.unit ≡ pos a.unit = to_z_pos w64 (omega (arith, c.requires.1)) in
    let product : SFits w64 (pos a.unit *ℤ a.o) = size_fits w64 _ (omega (arith, abs_scale a.unit a.o, size)) in
    let all : SFits w64 (a.p -ℤ (pos a.unit *ℤ a.o)) = size_fits w64 _ (omega (arith, offset_size a.unit a.p a.o, size, c.requires.0)) in
    rw (back, few, wide, to_z-of_z product) (to_z-of_z all)
