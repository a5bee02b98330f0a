use borrow.Author.Rules.{rules}
use mathlib.Core.Path.{◌≡◌}
use native.Mathlib.Nat.{mul-le-mul, le_of_lt}
use native.Mathlib.Omega.{arith}
use Prim.Native.Nat.{ℕ, ◌*◌, ◌<◌, ◌≤◌, ◌^◌}
use lib.IntN.{ℤ, pos, nat_abs, ◌+ℤ◌, ◌*ℤ◌}
use mir.Syntax.{w32, w64}
use mir.Val.{to_z, of_z, SFits}
use mir.Facts.{to_z-of_z, to_z_pos}
use Rattle.kit.proofs.Parts.{abs_scale, abs_add_scaled, size_fits, size_of_fits}
use Rattle.kit.proofs.Signed.{widened}
use Rattle.mapset.proofs.axes.node.Goals as goal

-- neither the product nor the sum leaves 64 bits
summed : (x d : ℤ) (i : ℕ) → i < 2 ^ 31 → SFits w32 x → SFits w32 d → to_z w64 (of_z w64 (x +ℤ to_z w64 (of_z w64 (pos i *ℤ d)))) ≡ x +ℤ pos i *ℤ d
summed x d i h f g =
    let m : i * nat_abs d ≤ 2 ^ 31 * 2 ^ 31 = mul-le-mul (le_of_lt h) (size_of_fits w32 d g) in
    let p : SFits w64 (pos i *ℤ d) = size_fits w64 _ (omega (arith, abs_scale i d)) in
    let s : SFits w64 (x +ℤ pos i *ℤ d) = size_fits w64 _ (omega (arith, abs_add_scaled x i d, size_of_fits w32 x f)) in
    rw (to_z-of_z p) (to_z-of_z s)

pub returns : goal.returns
returns c =
    let a = c.args.a in
    let f : SFits w32 a.first = search rules in
    let g : SFits w32 a.step = search rules in
    let i : to_z w64 c.args.i ≡ pos c.args.i = to_z_pos w64 (omega arith) in
    rw (i, widened a.first f, widened a.step g) (summed a.first a.step c.args.i c.requires f g)
