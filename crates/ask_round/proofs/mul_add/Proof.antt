-- `ask::round::mul_add` meets its contract.
use borrow.Author.Rules.{rules}
use native.Mathlib.Omega.{arith}
use mathlib.Core.Path.{◌≡◌, ap, ◌∙◌}
use mathlib.Core.Logic.{⊎_elim}
use Prim.Native.Nat.{ℕ, ◌<◌, ◌*◌, ◌^◌, ◌+◌}
use lib.IntN.{ℤ, pos, nat_abs, ◌+ℤ◌, ◌*ℤ◌}
use mir.Syntax.{w32, w64}
use mir.Val.{to_z, of_z, SFits}
use mir.Facts.{to_z-of_z, to_z_pos, sfits_widen}
use Rattle.kit.specs.Integer.{up, dn}
use Rattle.kit.proofs.Parts.{add_parts, scale_up, scale_dn, abs_parts, fits_parts, one_zero}
use Rattle.ask_round.proofs.mul_add.Statement.{statement}
use Rattle.ask_round.proofs.mul_add.Tie as tie

-- the product and the sum fit
module _ (t : ℤ) (w : ℕ) (v : ℤ) (h : nat_abs t + w * nat_abs v < 2 ^ 63) where
  size : w * nat_abs v ≡ w * up v + w * dn v
  size = ap (λ (k : ℕ). w * k) (abs_parts v) ∙ omega arith

  product_fits : SFits w64 (pos w *ℤ v)
  product_fits = fits_parts _ (omega (arith, size, scale_up w v)) (omega (arith, size, scale_dn w v))

  sum_fits : SFits w64 (t +ℤ pos w *ℤ v)
  sum_fits =
      let z : ℤ = t +ℤ pos w *ℤ v in
      let a = add_parts t (pos w *ℤ v) in
      let b = scale_up w v in
      let c = scale_dn w v in
      let e = size in
      let f = abs_parts t in
      ⊎_elim (λ o. fits_parts z (omega arith) (omega arith)) (λ o. fits_parts z (omega arith) (omega arith)) (one_zero z)

module _ (c : tie.Start) where
  back_t : to_z w64 (of_z w64 c.args.t) ≡ c.args.t
  back_t = to_z-of_z c.ranges.t

  back_v : to_z w32 (of_z w32 c.args.v) ≡ c.args.v
  back_v = to_z-of_z c.ranges.v

  wide_v : to_z w64 (of_z w64 (to_z w32 (of_z w32 c.args.v))) ≡ c.args.v
  wide_v = rw back_v (to_z-of_z {w = w64} (sfits_widen (tt {0}) c.ranges.v))

  read_w : to_z w64 c.args.w ≡ pos c.args.w
  read_w = to_z_pos w64 c.requires.0

  times : to_z w64 (of_z w64 (to_z w64 c.args.w *ℤ to_z w64 (of_z w64 (to_z w32 (of_z w32 c.args.v))))) ≡ pos c.args.w *ℤ c.args.v
  times = rw (read_w, wide_v) (to_z-of_z (product_fits c.args.t c.args.w c.args.v c.requires.1))

cast-result : tie.Need-overflow_cast-result
cast-result c = search rules

cast-result-2 : tie.Need-overflow_cast-result-2
cast-result-2 c = rw (back_v c) (sfits_widen tt c.ranges.v)

mul-result : tie.Need-overflow_mul-result
mul-result c = rw (read_w c, wide_v c) (product_fits c.args.t c.args.w c.args.v c.requires.1)

add-result : tie.Need-overflow_add-result
add-result c = rw (back_t c, times c) (sum_fits c.args.t c.args.w c.args.v c.requires.1)

returns : tie.Need-returns
returns c = rw (back_t c, times c) (to_z-of_z (sum_fits c.args.t c.args.w c.args.v c.requires.1))

pub mul_add_spec : {M : Type 1} → statement M
mul_add_spec = tie.close (tie.spec cast-result cast-result-2 mul-result add-result returns)
