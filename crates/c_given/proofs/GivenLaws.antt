-- A number that its field holds, or the largest that it can hold.
use mathlib.Core.Path.{◌≡◌, refl}
use mathlib.Core.Bool.{false}
use Prim.Native.Nat.{ℕ, ◌≤◌}
use lib.IntN.{ℤ, pos, negsuc, nat_abs}
use lib.Signed.{lt_z}
use borrow.Author.Tests.{le-ltb}
use Rattle.c_given.specs.Given.{bounded, axis_number}

module _ (high : ℕ) (z : ℤ) where
  pub bounded_within : lt_z z (pos 0) ≡ false → nat_abs z ≤ high → nat_abs z ≡ bounded high z
  bounded_within e h = rw (e, le-ltb _ _ h) refl

pub axis_within : (z : ℤ) → lt_z z (negsuc 2147483646) ≡ false → lt_z (pos 2147483647) z ≡ false → z ≡ axis_number z
axis_within z e f = rw (e, f) refl
