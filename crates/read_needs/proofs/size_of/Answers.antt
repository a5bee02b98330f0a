use mathlib.Core.Path.{refl, ap₂}
use Prim.Native.Nat.{◌*◌}
use native.Mathlib.Omega.{arith}
use native.Mathlib.Nat.{mul-le-mul}
use Rattle.read_needs.proofs.size_of.Goals as goal

pub overflow_mul-result : goal.overflow_mul-result
overflow_mul-result c =
    let s = c.before.before.before.before in
    let e = ap₂ ◌*◌ c.nodes-layers.ensures c.nodes-rows.ensures in
    omega (arith, e, mul-le-mul s.requires.2 s.requires.0)

pub returns : goal.returns
returns c = (refl, ap₂ ◌*◌ c.nodes-layers.ensures c.nodes-rows.ensures, c.nodes-columns.ensures)
