-- The maps of a kind in the areas as they are lent.
use mathlib.Core.Path.{◌≡◌, refl}
use mathlib.Core.List.{List}
use Prim.Native.Nat.{ℕ, ◌≤◌}
use lib.IntN.{ℤ}
use lib.ListN.{length}
use Rattle.mapset.specs.declared.Kind.{Kind}
use Rattle.mapset.specs.declared.Header.{Header}
use Rattle.mapset.specs.Grid.{columns}
use Rattle.mapset.specs.Areas.{Areas}
use Rattle.layout.specs.Layout.{per_map}
use Rattle.areas.specs.Valid.{values_in}
use Rattle.valid.specs.Groups.{Long}
use Rattle.valid.proofs.Whole.{kind_holds}
use Rattle.write_line.specs.Put.{LineRoom}
use Rattle.write_maps.specs.KindRows.{area_rows, area_force}
use Rattle.write_map.specs.Ready.{Fine, PutTo}
use Rattle.write_maps.specs.Ready.{ReadyPart, PutPart}
use Rattle.write_map.specs.declared.Reached.{Reached}

module _ (h : Header) (a : Areas) (l : Long h a) (q : Kind) (k k' : ℤ) (e : k' ≡ k) where
  pub area_ready : {at : ℕ} → Fine h → h.times.maps ≤ length a.epochs → LineRoom at (area_rows h a q k) → ReadyPart h at q k' a.epochs a.marks a.exponents (values_in q a)
  unfolding area_rows
  area_ready f v r =
      rw e (record { ready = record { fine = f; room = r }; holds = kind_holds h a l q (per_map h) (columns h.grid) refl refl; epochs = v; marks = l.marks })

  pub area_put : {o o' : List ℕ} {at : ℕ} {r : Reached}
      → PutPart h o at q k' a.epochs a.marks a.exponents (values_in q a) o' r
      → PutTo o at (area_rows h a q k) (area_force h a q k) o' r
  unfolding area_rows area_force
  area_put x = rw e at x
