-- Where the exponents of a kind begin, s of each kind.
use Prim.Native.Nat.{ℕ, ◌+◌, ◌*◌, ◌≤◌, ◌<◌}
use native.Mathlib.Omega.{arith}
use Rattle.mapset.specs.Areas.{first_of}
use Rattle.mapset.specs.declared.Kind.{Kind}
use Rattle.mapset.specs.declared.Kind.TheVariants.{Tec, Rms, Height}

pub first_within : (k : Kind) (s : ℕ) → first_of k s + s ≤ 3 * s
first_within Tec s = omega arith
first_within Rms s = omega arith
first_within Height s = omega arith

pub first_in : (k : Kind) (s x : ℕ) → x < s → first_of k s + x < 3 * s
first_in k s x h = omega (arith, first_within k s)
