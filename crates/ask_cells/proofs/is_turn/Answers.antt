-- `ask_cells::is_turn` meets its contract.
use native.Mathlib.Omega.{arith}
use mathlib.Core.Path.{◌≡◌}
use lib.IntN.{ℤ, pos, ◌+ℤ◌}
use mir.Syntax.{w32, w64}
use mir.Val.{to_z, of_z, SFits}
use mir.Facts.{to_z-of_z, sfits_widen}
use Rattle.kit.proofs.IntegerLaws.{same_bits}
use Rattle.kit.proofs.Order.{sum_size}
use Rattle.kit.proofs.Parts.{size_fits, size_of_fits}
use Rattle.ask_cells.proofs.is_turn.Goals as goal

wide : (z : ℤ) → SFits w32 z → to_z w64 (of_z w64 (to_z w32 (of_z w32 z))) ≡ z
wide z f = rw (to_z-of_z f) (to_z-of_z {w = w64} (sfits_widen (tt {0}) f))

pub returns : goal.returns
returns c =
    let x = c.args.x in
    let d = c.args.d in
    let o = c.args.o in
    let far : SFits w64 (x +ℤ d) = size_fits w64 _ (omega (arith, sum_size x d, size_of_fits w32 x c.ranges.x, size_of_fits w32 d c.ranges.d)) in
    let turn : SFits w64 (o +ℤ pos 3600) = size_fits w64 _ (omega (arith, sum_size o (pos 3600), size_of_fits w32 o c.ranges.o)) in
    rw (wide x c.ranges.x, wide d c.ranges.d, wide o c.ranges.o) (same_bits w64 (x +ℤ d) (o +ℤ pos 3600) far turn)
