-- The rows of one map, from its exponents and values, where its mark says that it is there.
use Rattle.std.specs.Prelude.{List, [], ◌∷◌, ◌++◌, ℕ, ◌*◌, take, drop, ℤ, pos}
use Rattle.kit.specs.Answer.{pick}
use Rattle.mapset.specs.declared.Kind.{Kind}
use Rattle.mapset.specs.declared.Kind.TheVariants.{Tec, Rms, Height}
use Rattle.mapset.specs.declared.Header.{Header}
use Rattle.mapset.specs.Grid.{columns}
use Rattle.mapset.specs.MapSet.{Block}
use Rattle.mapset.specs.Areas.{present?}
use Rattle.layout.specs.Labels.{epoch, start, end}
use Rattle.layout.specs.Layout.{per_map}
use Rattle.areas.specs.Lists.{chop, zipw}
use Rattle.areas.specs.Nest.{a_block}
use Rattle.canonical.specs.Canon.{row_of, date_of, six, block_rows, in_force}

-- the blocks of a map, from its exponents and values
abbrev pub map_blocks : Header → (es vs : List ℤ) → List Block
map_blocks h es vs = zipw a_block es (chop (per_map h) (columns h.grid) vs)

-- those of a map whose values begin at `from`
abbrev pub slot_blocks : Header → (es vs : List ℤ) (from : ℕ) → List Block
slot_blocks h es vs from = map_blocks h es (take (per_map h * columns h.grid) (drop from vs))

-- only TEC maps carry their epoch
abbrev pub epoch_rows : Kind → ℕ → List (List ℕ)
epoch_rows Tec t = row_of epoch (six (date_of t)) ∷ []
epoch_rows Rms t = []
epoch_rows Height t = []

-- the map of number i and epoch t, with the exponent k in force
unfoldable pub one_map : Kind → Header → (i t : ℕ) (k : ℤ) → List Block → List (List ℕ)
one_map q h i t k bs =
    row_of (start q) (pos i, tt) ∷ (epoch_rows q t ++ (block_rows h 0 k bs [] ++ (row_of (end q) (pos i, tt) ∷ [])))

-- where its mark m says that it is there; and the exponent then in force
unfoldable pub slot_map : Kind → Header → (i t m : ℕ) (k : ℤ) → List Block → List (List ℕ)
slot_map q h i t m k bs = pick (present? q m) (one_map q h i t k bs) []

unfoldable pub slot_force : Kind → (m : ℕ) (k : ℤ) → List Block → ℤ
slot_force q m k bs = pick (present? q m) (in_force k bs) k
