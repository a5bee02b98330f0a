-- The nodes of a map and of a kind of a map set, and their figures. Kinds are 0 TEC, 1 RMS, 2 height; maps count from 0.
use Rattle.std.specs.Prelude.{List, ◌++◌, ℕ, ◌+◌, ◌*◌, ℤ}
use Rattle.std.proofs.Math.Option.{Option}
use Rattle.mapset.specs.Grid.{layers, rows, columns}
use Rattle.mapset.specs.Areas.{Areas}
use Rattle.mapset.specs.declared.Header.{Header}
use Rattle.areas.specs.Lists.{flat, tab}
use Rattle.areas.specs.Valid.{values_in}
use Rattle.ask_nodes.specs.Value.{kind_of, value, corner}
use Rattle.ask_nodes.specs.declared.Shape.{Shape}
use Rattle.week_tally.specs.Figures.{figures}
use Rattle.week_tally.specs.Rows.{row}
use Rattle.week_tally.specs.declared.Tally.{Tally}

abbrev pub shape : ℕ → Header → ℕ → Shape
shape k h l = record { kind = k; layer = l; maps = h.times.maps; layers = layers h.grid; rows = rows h.grid; columns = columns h.grid }

-- the value of a node as asking takes it, or none
abbrev pub node_value : (k : ℕ) → Header → Areas → (map layer row column : ℕ) → Option ℤ
node_value k h a i l r c = value (shape k h l) (values_in (kind_of k) a) a.exponents a.marks (corner 1 i r c)

-- ---- of one map: layer by layer, row by row, column by column
unfoldable pub map_nodes : (k : ℕ) → Header → Areas → (map : ℕ) → List (Option ℤ)
map_nodes k h a i =
    flat (tab 0 (layers h.grid) (λ l. flat (tab 0 (rows h.grid) (λ r. tab 0 (columns h.grid) (λ c. node_value k h a i l r c)))))

abbrev pub map_figures : (k : ℕ) → Header → Areas → (map : ℕ) → Tally
map_figures k h a i = figures (map_nodes k h a i)

-- ---- of all maps of a kind
unfoldable pub kind_nodes : (k : ℕ) → Header → Areas → List (Option ℤ)
kind_nodes k h a = flat (tab 0 h.times.maps (map_nodes k h a))

abbrev pub kind_figures : (k : ℕ) → Header → Areas → Tally
kind_figures k h a = figures (kind_nodes k h a)

-- ---- as they are told in an area: kind by kind, a row for each map and then one for the kind
unfoldable pub kind_rows : (k : ℕ) → Header → Areas → List ℤ
kind_rows k h a = flat (tab 0 h.times.maps (λ i. row (map_figures k h a i))) ++ row (kind_figures k h a)

unfoldable pub set_rows : Header → Areas → List ℤ
set_rows h a = kind_rows 0 h a ++ (kind_rows 1 h a ++ kind_rows 2 h a)

abbrev pub rows_need : Header → ℕ
rows_need h = 15 * (h.times.maps + 1)
