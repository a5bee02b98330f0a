-- `ask::sun::moved_to` meets its contract.
use borrow.Author.Rules.{rules}
use native.Mathlib.Omega.{arith}
use mathlib.Core.Path.{◌≡◌}
use Prim.Native.Nat.{ℕ, ◌<◌, ◌^◌}
use lib.IntN.{ℤ, pos, nat_abs, ◌+ℤ◌, ◌-ℤ◌, ◌*ℤ◌}
use mir.Syntax.{w32, w64}
use mir.Val.{to_z, of_z, SFits}
use mir.Facts.{to_z-of_z, to_z_pos, sfits_widen}
use Rattle.kit.proofs.Order.{less_size}
use Rattle.kit.proofs.Parts.{abs_scale, size_fits, size_of_fits}
use Rattle.ask.specs.Sun.{moved}
use Rattle.ask.proofs.AskLaws.{moved_size}
use Rattle.ask.proofs.sun.moved_to.Statement.{statement}
use Rattle.ask.proofs.sun.moved_to.Tie as tie

module _ (s : tie.Start) where
  abbrev lon : ℤ
  lon = s.args.lon

  abbrev t : ℕ
  t = s.args.second

  abbrev e : ℕ
  e = s.args.epoch

  lon_is : to_z w64 (of_z w64 (to_z w32 (of_z w32 lon))) ≡ lon
  lon_is = rw (to_z-of_z s.ranges.lon) (to_z-of_z {w = w64} (sfits_widen (tt {0}) s.ranges.lon))

  t_is : to_z w64 t ≡ pos t
  t_is = to_z_pos w64 (omega (arith, s.requires.0))

  e_is : to_z w64 e ≡ pos e
  e_is = to_z_pos w64 (omega (arith, s.requires.1))

  small : nat_abs lon < 2 ^ 32
  small = omega (arith, size_of_fits w32 lon s.ranges.lon)

  twelve : SFits w64 (pos 12 *ℤ lon)
  twelve = size_fits w64 _ (omega (arith, abs_scale 12 lon, small))

  since : SFits w64 (pos t -ℤ pos e)
  since = size_fits w64 _ (omega (arith, less_size (pos t) (pos e), s.requires))

  five : SFits w64 (pos 5 *ℤ (pos t -ℤ pos e))
  five = size_fits w64 _ (omega (arith, abs_scale 5 (pos t -ℤ pos e), less_size (pos t) (pos e), s.requires))

  all : SFits w64 (moved lon t e)
  all = size_fits w64 _ (omega (arith, moved_size lon t e, small, s.requires))

  -- what is reckoned in 64 bits is the longitude moved by the time since the epoch
  reckoned : to_z w64 (of_z w64 (to_z w64 (of_z w64 (pos 12 *ℤ lon)) +ℤ to_z w64 (of_z w64 (pos 5 *ℤ to_z w64 (of_z w64 (pos t -ℤ pos e)))))) ≡ moved lon t e
  reckoned = rw (to_z-of_z twelve, to_z-of_z since, to_z-of_z five) (to_z-of_z all)

returns : tie.Need-returns
returns c = rw (lon_is c, t_is c, e_is c) (reckoned c)

cast-result : tie.Need-overflow_cast-result
cast-result c = rw (to_z-of_z c.ranges.lon) (sfits_widen tt c.ranges.lon)

mul-result : tie.Need-overflow_mul-result
mul-result c = rw (lon_is c) (twelve c)

cast-result-2 : tie.Need-overflow_cast-result-2
cast-result-2 c = search rules

cast-result-3 : tie.Need-overflow_cast-result-3
cast-result-3 c = search rules

sub-result : tie.Need-overflow_sub-result
sub-result c = rw (t_is c, e_is c) (since c)

mul-result-2 : tie.Need-overflow_mul-result-2
mul-result-2 c = rw (t_is c, e_is c, to_z-of_z (since c)) (five c)

add-result : tie.Need-overflow_add-result
add-result c = rw (lon_is c, t_is c, e_is c, to_z-of_z (twelve c), to_z-of_z (since c), to_z-of_z (five c)) (all c)

pub moved_to_spec : {M : Type 1} → statement M
moved_to_spec = tie.close (tie.spec cast-result mul-result cast-result-2 cast-result-3 sub-result mul-result-2 add-result returns)
