-- `calendar::shifted` meets its contract.
use borrow.Author.Rules.{rules}
use native.Mathlib.Omega.{arith}
use mathlib.Core.Bool.{true, false}
use mathlib.Core.Logic.{⊎_elim}
use mathlib.Core.Path.{◌≡◌, refl, ap}
use Prim.Native.Nat.{ℕ, ◌+◌, ◌<◌}
use lib.IntN.{ℤ, pos, nat_abs, ◌+ℤ◌}
use lib.Signed.{lt_z}
use mir.Syntax.{w64}
use mir.Val.{to_z, of_z, SFits}
use mir.Facts.{to_z-of_z, to_z_pos}
use Rattle.kit.specs.Integer.{up, dn}
use Rattle.kit.proofs.Parts.{add_parts, one_zero, fits_parts, parts_fits, eq_parts, lt_true, below_zero, not_below_zero, nonneg_parts}
use Rattle.calendar.specs.End.{end}
use Rattle.calendar.specs.Inner.{Moment}
use Rattle.calendar.proofs.shifted.Statement.{statement}
use Rattle.calendar.proofs.shifted.Tie as tie

-- backwards: the sum fits, since the second is not negative
module _ (s : ℕ) (b : ℤ) (h : s < end) (f : SFits w64 b) (l : lt_z b (pos 0) ≡ true) where
  back_fits : SFits w64 (pos s +ℤ b)
  back_fits =
      let z : ℤ = pos s +ℤ b in
      let a = add_parts (pos s) b in
      let k = parts_fits b f in
      let m = below_zero b l in
      ⊎_elim (λ o. fits_parts z (omega arith) (omega arith)) (λ o. fits_parts z (omega arith) (omega arith)) (one_zero z)

  back_moment : lt_z (pos s +ℤ b) (pos 0) ≡ false → Moment s b (nat_abs (pos s +ℤ b))
  back_moment e =
      let n = not_below_zero (pos s +ℤ b) e in
      (omega (arith, n, add_parts (pos s) b, below_zero b l), eq_parts _ (pos s +ℤ b) (omega (arith, n)))

-- forwards
ahead : (s : ℕ) (b : ℤ) → lt_z b (pos 0) ≡ false → pos (s + nat_abs b) ≡ pos s +ℤ b
ahead s b l = eq_parts _ (pos s +ℤ b) (omega (arith, add_parts (pos s) b, not_below_zero b l))

by_is : (s : tie.Start) → to_z w64 (of_z w64 s.args.by) ≡ s.args.by
by_is s = to_z-of_z s.ranges.by

module _ (c : tie.Then-by-lt0) where
  abbrev start : tie.Start
  start = c.before

  abbrev sum : ℤ
  sum = pos start.args.s +ℤ start.args.by

  earlier : lt_z start.args.by (pos 0) ≡ true
  earlier = rw (by_is start) at c.if-by-lt0.true

  sum_fits : SFits w64 sum
  sum_fits = back_fits start.args.s start.args.by start.requires start.ranges.by earlier

  sum_is : to_z w64 start.args.s +ℤ to_z w64 (of_z w64 start.args.by) ≡ sum
  sum_is = rw (to_z_pos w64 {n = start.args.s} (omega (arith, start.requires)), by_is start) refl

  t_is : to_z w64 (of_z w64 (to_z w64 start.args.s +ℤ to_z w64 (of_z w64 start.args.by))) ≡ sum
  t_is = rw sum_is (to_z-of_z sum_fits)

cast-earlier : tie.Need-overflow_cast-earlier
cast-earlier c = search rules

add-earlier : tie.Need-overflow_add-earlier
add-earlier c = rw (sum_is c) (sum_fits c)

returns : tie.Need-returns-then-earlier-lt0
returns c = (refl, λ t m. omega (arith, lt_true (sum c.before) (pos 0) (rw (t_is c.before) at c.if-earlier-lt0.true), ap up m.1, ap dn m.1))

cast-t8 : tie.Need-overflow_cast-result
cast-t8 c =
    let d = c.before in
    let e = rw (t_is d) at c.if-earlier-lt0.false in
    rw (t_is d) (nonneg_parts (sum d) (not_below_zero (sum d) e).0, record { fits = omega (arith, (back_moment d.args.s d.args.by d.requires d.ranges.by (earlier d) e).0) })

returns-2 : tie.Need-returns-then-by-lt0
returns-2 c =
    let d = c.before in
    rw (t_is d) (back_moment d.args.s d.args.by d.requires d.ranges.by (earlier d) (rw (t_is d) at c.if-earlier-lt0.false))

module _ (c : tie.Else-by-lt0) where
  later : lt_z c.args.by (pos 0) ≡ false
  later = rw (by_is c.before) at c.if-by-lt0.false

  ahead_is : pos (c.args.s + nat_abs c.args.by) ≡ pos c.args.s +ℤ c.args.by
  ahead_is = ahead c.args.s c.args.by later

cast-later : tie.Need-overflow_cast-later
cast-later c =
    let b : ℤ = c.args.by in
    let n = not_below_zero b (later c) in
    rw (by_is c.before) (nonneg_parts b n.0, record { fits = omega (arith, n, parts_fits b c.ranges.by) })

add-later : tie.Need-overflow_add-later
add-later c =
    let b : ℤ = c.args.by in
    rw (by_is c.before) (record { fits = omega (arith, not_below_zero b (later c), parts_fits b c.ranges.by) })

returns-3 : tie.Need-returns-then-later-lt-END
returns-3 c = rw (by_is c.before.before) (rw (by_is c.before.before) at c.if-later-lt-END.true, ahead_is c.before)

returns-4 : tie.Need-returns-else-later-lt-END
returns-4 c = (refl, λ t m. let k = rw (by_is c.before.before) at c.if-later-lt-END.false in omega (arith, k, m.0, ap up (ahead_is c.before), ap up m.1))

pub shifted_spec : {M : Type 1} → statement M
shifted_spec = tie.close (tie.spec cast-earlier add-earlier returns cast-t8 returns-2 cast-later add-later returns-3 returns-4)
