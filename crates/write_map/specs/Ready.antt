-- What the functions that put a map ask of their callers.
use Rattle.std.specs.Prelude.{◌≡◌, List, ℕ, ◌+◌, ◌*◌, ◌≤◌, ◌<◌, ◌^◌, length, ℤ}
use Rattle.mapset.specs.declared.Kind.{Kind}
use Rattle.mapset.specs.declared.Header.{Header}
use Rattle.mapset.specs.Grid.{columns, Limits}
use Rattle.mapset.specs.Areas.{Present}
use Rattle.layout.specs.Layout.{per_map}
use Rattle.canonical.specs.Canon.{Axes}
use Rattle.write_line.specs.Put.{LineRoom, Put}
use Rattle.write_map.specs.OneMap.{slot_blocks, slot_map, slot_force}
use Rattle.write_map.specs.declared.Reached.{Reached}

-- the grid is accepted, so that the nodes have a place in their columns
pub record Fine (h : Header) : Type 0 where
  pub axes : Axes h
  pub maps : h.times.maps ≤ 300
  pub limits : Limits h.times.maps h.grid

pub record Ready (h : Header) (at : ℕ) (rs : List (List ℕ)) : Type 0 where
  pub fine : Fine h
  pub room : LineRoom at rs

-- the exponents and values of one map
pub record Full (h : Header) (es vs : List ℤ) : Type 0 where
  pub exponents : length es ≡ per_map h
  pub values : length vs ≡ per_map h * columns h.grid

-- a map that may be there; if it is, its values stand from `from` to `end`
pub record ReadySlot (h : Header) (at : ℕ) (q : Kind) (i t m : ℕ) (k : ℤ) (es vs : List ℤ) (from end : ℕ) : Type 0 where
  pub ready : Ready h at (slot_map q h i t m k (slot_blocks h es vs from))
  pub number : i < 2 ^ 31
  pub exponents : length es ≡ per_map h
  pub width : end ≡ from + per_map h * columns h.grid
  pub values : Present q m → end ≤ length vs
  pub low : end < 2 ^ 60

-- rows are put, and k is then in force
pub record PutTo (o : List ℕ) (at : ℕ) (rs : List (List ℕ)) (k : ℤ) (o' : List ℕ) (r : Reached) : Type 0 where
  pub put : Put o at rs o' r.at
  pub force : r.exponent ≡ k

-- a map that may be there is put, and the exponent then in force is told
abbrev pub PutSlot : Header → (o : List ℕ) (at : ℕ) (q : Kind) (i t m : ℕ) (k : ℤ) (es vs : List ℤ) (from : ℕ) (o' : List ℕ) → Reached → Type 0
PutSlot h o at q i t m k es vs from o' r = PutTo o at (slot_map q h i t m k (slot_blocks h es vs from)) (slot_force q m k (slot_blocks h es vs from)) o' r
