-- The opening of a block, by the grid.
use mathlib.Core.Path.{◌≡◌, ◌∙◌}
use mathlib.Core.List.{List}
use Prim.Native.Nat.{ℕ, ◌/◌, ◌%◌, ◌<◌, ◌^◌}
use native.Mathlib.Nat.{mod-le, div-le_self}
use native.Mathlib.Omega.{arith}
use lib.IntN.{ℤ}
use Rattle.mapset.specs.declared.Grid.{Grid}
use Rattle.mapset.specs.Grid.{rows}
use Rattle.layout.specs.Labels.{block}
use Rattle.layout.specs.Layout.{node}
use Rattle.canonical.specs.Canon.{row_of, Wide}
use Rattle.write_row.specs.Rows.{opening_of, Placed}

module _ (g : Grid) (d n : ℕ) (e : n ≡ rows g) where
  pub latitude_placed : Placed g d → (d % n < 2 ^ 31) × Wide (node g.latitudes (d % n))
  latitude_placed p = rw e (omega (arith, mod-le d (rows g), p.few), p.latitude)

  pub height_placed : Placed g d → (d / n < 2 ^ 31) × Wide (node g.heights (d / n))
  height_placed p = rw e (omega (arith, div-le_self d (rows g), p.few), p.height)

  pub opening_filled : (r : List ℕ) (x y z u v : ℤ) → r ≡ row_of block (x, (y, (z, (u, (v, tt)))))
      → x ≡ node g.latitudes (d % n) → y ≡ g.longitudes.first → z ≡ g.longitudes.last → u ≡ g.longitudes.step → v ≡ node g.heights (d / n)
      → r ≡ row_of block (opening_of g d)
  opening_filled r x y z u v q a b c s h =
      let k : x ≡ node g.latitudes (d % rows g) = rw e at a in
      let l : v ≡ node g.heights (d / rows g) = rw e at h in
      q ∙ (λ i. row_of block (k i, (b i, (c i, (s i, (l i, tt))))))
