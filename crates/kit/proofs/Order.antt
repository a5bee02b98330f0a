-- The strict order of integers by parts, and the size of a sum and of a difference.
use mathlib.Core.Logic.{⊎_elim}
use Prim.Native.Nat.{◌+◌, ◌≤◌, ◌<◌}
use native.Mathlib.Omega.{arith}
use lib.Dec.{ltb→lt, lt→ltb}
use lib.IntN.{ℤ, pos, negsuc, nat_abs, ◌-ℤ◌, ◌+ℤ◌}
use lib.Signed.{◌<ℤ◌}
use Rattle.kit.specs.Integer.{up, dn}
use Rattle.kit.proofs.Parts.{sub_parts2, abs_parts, one_zero, add_parts}

pub parts_lt : (x y : ℤ) → x <ℤ y → up x + dn y < up y + dn x
parts_lt (pos a) (pos b) h = omega (arith, ltb→lt a b h.lt)
parts_lt (pos a) (negsuc b) h = absurd h.lt
parts_lt (negsuc a) (pos b) h = omega arith
parts_lt (negsuc a) (negsuc b) h = omega (arith, ltb→lt b a h.lt)

pub lt_parts : (x y : ℤ) → up x + dn y < up y + dn x → x <ℤ y
lt_parts (pos a) (pos b) h = record { lt = lt→ltb a b (omega arith) }
lt_parts (pos a) (negsuc b) h = absurd (omega arith)
lt_parts (negsuc a) (pos b) h = record { lt = tt }
lt_parts (negsuc a) (negsuc b) h = record { lt = lt→ltb b a (omega arith) }

pub less_size : (x y : ℤ) → nat_abs (x -ℤ y) ≤ nat_abs x + nat_abs y
less_size x y =
    let a = sub_parts2 x y in
    let b = abs_parts (x -ℤ y) in
    let d = abs_parts x in
    let e = abs_parts y in
    ⊎_elim (λ o. omega arith) (λ o. omega arith) (one_zero (x -ℤ y))

pub sum_size : (x y : ℤ) → nat_abs (x +ℤ y) ≤ nat_abs x + nat_abs y
sum_size x y =
    let z : ℤ = x +ℤ y in
    let a = add_parts x y in
    let b = abs_parts z in
    let d = abs_parts x in
    let e = abs_parts y in
    ⊎_elim (λ o. omega arith) (λ o. omega arith) (one_zero z)
