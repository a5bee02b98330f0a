-- What the functions that put the maps ask of their callers, and what comes of it.
use Rattle.std.specs.Prelude.{List, ℕ, ◌≤◌, length, take, ℤ}
use Rattle.mapset.specs.declared.Kind.{Kind}
use Rattle.mapset.specs.declared.Header.{Header}
use Rattle.mapset.specs.Grid.{columns}
use Rattle.mapset.specs.Areas.{Areas}
use Rattle.layout.specs.Layout.{per_map}
use Rattle.valid.specs.Groups.{Holds, Long}
use Rattle.write_map.specs.Ready.{Ready, PutTo}
use Rattle.write_map.specs.declared.Reached.{Reached}
use Rattle.write_maps.specs.KindRows.{part_rows, part_force, all_rows}

-- the maps of a kind in the areas as they are lent
pub record ReadyPart (h : Header) (at : ℕ) (q : Kind) (k : ℤ) (ts ms : List ℕ) (es vs : List ℤ) : Type 0 where
  pub ready : Ready h at (part_rows q h k ts ms es vs)
  pub holds : Holds q (per_map h) (columns h.grid) (take h.times.maps ms) vs es
  pub epochs : h.times.maps ≤ length ts
  pub marks : h.times.maps ≤ length ms

-- they are put, and the exponent then in force is told
abbrev pub PutPart : Header → (o : List ℕ) (at : ℕ) (q : Kind) (k : ℤ) (ts ms : List ℕ) (es vs : List ℤ) (o' : List ℕ) → Reached → Type 0
PutPart h o at q k ts ms es vs o' r = PutTo o at (part_rows q h k ts ms es vs) (part_force q h k ms es vs) o' r

pub record ReadyMaps (h : Header) (at : ℕ) (a : Areas) : Type 0 where
  pub ready : Ready h at (all_rows h a)
  pub epochs : h.times.maps ≤ length a.epochs
  pub long : Long h a
