-- The index of a small text, its positions counted by hand: how many bytes stand before each block's opening line; and what asking by an index answers, in
-- 02's words.
use mathlib.Core.Path.{◌≡◌, refl}
use mathlib.Core.List.{List, [], ◌∷◌}
use Prim.Native.Nat.{ℕ, ◌+◌, ◌-◌, ◌<◌}
use native.Mathlib.Decide.{ℕ_discrete, dec_le}
use native.Mathlib.Omega.{arith}
use lib.IntN.{negsuc}
use lib.ListN.{get_or, drop}
use Rattle.kit.specs.Answer.{need, amap, pick, ×_dec, all_dec, same, sames}
use Rattle.kit.specs.Range.{within?, natural?}
use Rattle.forms.specs.Read.{read_field, number_of, formed?}
use Rattle.mapset.specs.Grid.{layers, rows, columns}
use Rattle.mapset.specs.Areas.{Present}
use Rattle.mapset.specs.declared.Header.{Header}
use Rattle.mapset.specs.Samples.{nodes_of}
use Rattle.layout.specs.Text.{pad}
use Rattle.layout.specs.Labels.{name}
use Rattle.reading.specs.Feed.{opens?}
use Rattle.reading.specs.Fields.{lookup, label, number, blank, scan, fields, cells}
use Rattle.layout.specs.Samples.{lines}
use Rattle.reading.proofs.Vectors.{small_text, small_set}
use Rattle.areas.specs.Flat.{areas_of}
use Rattle.areas.specs.Scan.{or_else, second_of, brought, body, events}
use Rattle.read_lines.specs.Cuts.{cuts}
use Rattle.ask_nodes.specs.Value.{kind_of}
use Rattle.index.specs.Found.{clean?, blank?}
use Rattle.index.specs.Index.{Index, Node, node, entry, entries, Fit, Inside, Pointed, Replies, refused, stop, go, done, position, exponent}
use Rattle.index.specs.Made.{placed, opened, maps_of, positions_of, entries_of}

-- two TEC and two RMS blocks; the height map is absent
pub small_index : entries_of small_set (lines small_text)
    ≡ entries (1385 ∷ 1552 ∷ 1801 ∷ 1898 ∷ 0 ∷ 0 ∷ []) (negsuc 0 ∷ negsuc 1 ∷ negsuc 1 ∷ negsuc 1 ∷ negsuc 0 ∷ negsuc 0 ∷ []) (1 ∷ [])
unfolding small_text small_set placed cuts opens? clean? blank? opened maps_of positions_of or_else second_of brought body events areas_of label lookup name fields scan number blank cells read_field number_of formed? pad pick need amap ×_dec all_dec same sames within? natural? ℕ_discrete dec_le
small_index = refl

-- a header of n maps, of so many layers and rows
abbrev sized : (n l r : ℕ) → Header → Header
sized n l r h =
    record {
      version = h.version;
      times = record { first = h.times.first; last = h.times.last; interval = h.times.interval; maps = n };
      model = h.model;
      grid = record { heights = nodes_of l; latitudes = nodes_of r; longitudes = h.grid.longitudes };
      stations = h.stations;
      satellites = h.satellites;
      systems = h.systems;
      descriptions = h.descriptions;
    }

-- layer 1, row 2 of map 3, in 4 maps of 2 layers of 5 rows: the TEC entry stands after 2·10 + 5 + 2 others, the RMS maps 40 behind, the height maps 80
pub entries_apart : (h : Header) → (entry (sized 4 2 5 h) (node 0 3 1 2 0) ≡ 27) × (entry (sized 4 2 5 h) (node 1 3 1 2 0) ≡ 67) × (entry (sized 4 2 5 h) (node 2 3 1 2 0) ≡ 107)
entries_apart h = (refl, refl, refl)

-- maps count from 1, layers, rows and columns from 0
pub outside_by_one : (h : Header) → (¬ Inside h (node 0 0 0 0 0)) × (¬ Inside h (node 0 (h.times.maps + 1) 0 0 0)) × (¬ Inside h (node 0 1 (layers h.grid) 0 0)) × (¬ Inside h (node 0 1 0 (rows h.grid) 0))
    × (¬ Inside h (node 0 1 0 0 (columns h.grid)))
outside_by_one h = (λ i. omega (arith, i.map), λ i. omega (arith, i.map), λ i. omega (arith, i.layer), λ i. omega (arith, i.row), λ i. omega (arith, i.column))

-- 23, 31, 21, 22, 50 in this order: each whatever the later ones are
pub refusals_in_order : (x : Index) (t : List ℕ) (q : Node)
    → (¬ (q.kind < 3) → Replies x t q (refused 23))
    × (q.kind < 3 → ¬ Fit x → Replies x t q (refused 31))
    × (q.kind < 3 → Fit x → ¬ Inside x.header q → Replies x t q (refused 21))
    × (q.kind < 3 → Fit x → Inside x.header q → ¬ Present (kind_of q.kind) (get_or x.marks (q.map - 1) 0) → Replies x t q (refused 22))
    × (q.kind < 3 → Fit x → Inside x.header q → Present (kind_of q.kind) (get_or x.marks (q.map - 1) 0)
    → ¬ Pointed x.header (done x.header q) (drop (position x q) t) (exponent x q) → Replies x t q (refused 50))
refusals_in_order x t q =
    (λ n. stop n, λ k n. go k (stop n), λ k f n. go k (go f (stop n)), λ k f i n. go k (go f (go i (stop n))), λ k f i p n. go k (go f (go i (go p (stop n)))))
