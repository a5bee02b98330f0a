-- The rows of the maps of one kind, from what the lent areas hold of it: one map for each TEC map, where its mark says that it is there.
use Rattle.std.specs.Prelude.{List, [], ◌∷◌, ◌++◌, ℕ, suc, ◌*◌, take, drop, ℤ, negsuc}
use Rattle.mapset.specs.declared.Kind.{Kind}
use Rattle.mapset.specs.declared.Kind.TheVariants.{Tec, Rms, Height}
use Rattle.mapset.specs.declared.Header.{Header}
use Rattle.mapset.specs.Grid.{columns}
use Rattle.mapset.specs.MapSet.{Block}
use Rattle.mapset.specs.Areas.{Areas, blocks}
use Rattle.layout.specs.Labels.{file_end}
use Rattle.layout.specs.Layout.{per_map}
use Rattle.areas.specs.Nest.{third}
use Rattle.areas.specs.Valid.{values_in}
use Rattle.valid.specs.Groups.{kind_values}
use Rattle.canonical.specs.Canon.{row_of}
use Rattle.write_map.specs.OneMap.{map_blocks, slot_map, slot_force}

-- the blocks of the first of several maps
abbrev pub first_map : Header → (es vs : List ℤ) → List Block
first_map h es vs = map_blocks h (take (per_map h) es) (take (per_map h * columns h.grid) vs)

-- the maps after i others, from their epochs, marks, exponents and values; and the exponent in force after them
unfoldable pub kind_rows : Kind → Header → (i : ℕ) (k : ℤ) (ts ms : List ℕ) (es vs : List ℤ) → List (List ℕ)
kind_rows q h i k (t ∷ ts) (m ∷ ms) es vs =
    slot_map q h (suc i) t m k (first_map h es vs)
    ++ kind_rows q h (suc i) (slot_force q m k (first_map h es vs)) ts ms (drop (per_map h) es) (drop (per_map h * columns h.grid) vs)
kind_rows q h i k (t ∷ ts) [] es vs = []
kind_rows q h i k [] ms es vs = []

unfoldable pub kind_force : Kind → Header → (k : ℤ) (ms : List ℕ) (es vs : List ℤ) → ℤ
kind_force q h k (m ∷ ms) es vs =
    kind_force q h (slot_force q m k (first_map h es vs)) ms (drop (per_map h) es) (drop (per_map h * columns h.grid) vs)
kind_force q h k [] es vs = k

-- ---- of the areas as they are lent: a kind with no map needs no values

abbrev pub part_values : Kind → Header → (marks : List ℕ) (vs : List ℤ) → List ℤ
part_values q h marks vs = kind_values q (per_map h) (columns h.grid) (take h.times.maps marks) vs

-- the rows of its maps, with the exponent k in force before them; and the exponent in force after them
abbrev pub part_rows : Kind → Header → (k : ℤ) (epochs marks : List ℕ) (es vs : List ℤ) → List (List ℕ)
part_rows q h k epochs marks es vs =
    kind_rows q h 0 k (take h.times.maps epochs) (take h.times.maps marks) (third q (blocks h) es) (part_values q h marks vs)

abbrev pub part_force : Kind → Header → (k : ℤ) (marks : List ℕ) (es vs : List ℤ) → ℤ
part_force q h k marks es vs = kind_force q h k (take h.times.maps marks) (third q (blocks h) es) (part_values q h marks vs)

module _ (h : Header) (a : Areas) where
  unfoldable pub area_rows : Kind → ℤ → List (List ℕ)
  area_rows q k = part_rows q h k a.epochs a.marks a.exponents (values_in q a)

  unfoldable pub area_force : Kind → ℤ → ℤ
  area_force q k = part_force q h k a.marks a.exponents (values_in q a)

  -- TEC maps, RMS maps, height maps; the exponent in force goes on from kind to kind
  abbrev pub all_rows : List (List ℕ)
  all_rows =
      area_rows Tec (negsuc 0)
      ++ (area_rows Rms (area_force Tec (negsuc 0))
      ++ (area_rows Height (area_force Rms (area_force Tec (negsuc 0))) ++ (row_of file_end tt ∷ [])))
