-- The nodes of a grid that is accepted have a place in their columns.
use Prim.Native.Nat.{ℕ, ◌*◌, ◌/◌, ◌%◌, ◌≤◌, ◌<◌}
use native.Mathlib.Nat.{mod-lt, mul-le-mul, div-lt_iff_lt-mul}
use native.Mathlib.Omega.{arith}
use Rattle.mapset.specs.declared.Grid.{Grid}
use Rattle.mapset.specs.Grid.{heights, latitudes, AxisRules, layers, rows}
use Rattle.canonical.proofs.RoomLaws.{wide_node}
use Rattle.write_row.specs.Rows.{Placed}

pub placed : (g : Grid) (d : ℕ) → AxisRules heights g.heights → AxisRules latitudes g.latitudes → layers g ≤ 64 → rows g ≤ 361 → d < layers g * rows g → Placed g d
placed g d h l m n k =
    let z : 0 < rows g = omega arith in
    let u : layers g * rows g ≤ 64 * 361 = mul-le-mul m n in
    record {
      few = omega arith;
      latitude = wide_node latitudes g.latitudes (d % rows g) l (mod-lt d z);
      height = wide_node heights g.heights (d / rows g) h ((div-lt_iff_lt-mul z).1 k);
    }
