-- The two counts of a map add to L·R·C; the figures of a kind are its maps' combined; sums are small.
use mathlib.Core.Path.{◌≡◌, ◌∙◌}
use Prim.Native.Nat.{ℕ, ◌+◌, ◌*◌}
use native.Mathlib.Omega.{arith}
use lib.ListN.{length}
use Rattle.kit.specs.Answer.{All}
use Rattle.mapset.specs.Grid.{layers, rows, columns}
use Rattle.mapset.specs.Areas.{Areas}
use Rattle.mapset.specs.declared.Header.{Header}
use Rattle.areas.specs.Lists.{tab}
use Rattle.areas.specs.Valid.{values_in}
use Rattle.areas.proofs.ListLaws.{tab_length, tab_all}
use Rattle.ask_nodes.specs.Value.{kind_of, corner}
use Rattle.ask_nodes.specs.Nodes.{Small}
use Rattle.ask_nodes.proofs.NodeLaws.{small_value}
use Rattle.week_tally.specs.Figures.{given, lacking, figures, total, Bounded}
use Rattle.week_tally.proofs.FigureLaws.{counts_add, bounded_figures, Spans, range_spans}
use Rattle.week_set.specs.SetFigures.{shape, node_value, map_nodes, map_figures, kind_nodes, kind_figures}
use Rattle.week_set.proofs.TabLaws.{length_flat_tab, all_flat_tab, figures_tab}

module _ (k : ℕ) (h : Header) (a : Areas) where
  pub map_length : (i : ℕ) → length (map_nodes k h a i) ≡ layers h.grid * rows h.grid * columns h.grid
  unfolding map_nodes
  map_length i =
      length_flat_tab (rows h.grid * columns h.grid) 0 (layers h.grid) _ (λ l.
      length_flat_tab (columns h.grid) 0 (rows h.grid) _ (λ r. tab_length 0 (columns h.grid) (λ c. node_value k h a i l r c)))
      ∙ omega arith

  -- ---- the two counts of a map add to L·R·C
  pub map_counts : (i : ℕ) → given (map_nodes k h a i) + lacking (map_nodes k h a i) ≡ layers h.grid * rows h.grid * columns h.grid
  map_counts i = counts_add (map_nodes k h a i) ∙ map_length i

  -- ---- and of a kind to n·L·R·C
  pub kind_length : length (kind_nodes k h a) ≡ h.times.maps * (layers h.grid * rows h.grid * columns h.grid)
  unfolding kind_nodes
  kind_length = length_flat_tab _ 0 h.times.maps (map_nodes k h a) map_length

  pub kind_counts : given (kind_nodes k h a) + lacking (kind_nodes k h a) ≡ h.times.maps * (layers h.grid * rows h.grid * columns h.grid)
  kind_counts = counts_add (kind_nodes k h a) ∙ kind_length

  -- ---- the figures of a kind are those of its maps
  pub kind_maps : kind_figures k h a ≡ total (tab 0 h.times.maps (λ i. map_figures k h a i))
  unfolding kind_nodes
  kind_maps = figures_tab 0 h.times.maps (map_nodes k h a)

  -- ---- sums
  small_map : (i : ℕ) → All Small (map_nodes k h a i)
  unfolding map_nodes
  small_map i =
      all_flat_tab Small 0 (layers h.grid) _ (λ l. all_flat_tab Small 0 (rows h.grid) _ (λ r. tab_all Small 0 (columns h.grid) (λ c. node_value k h a i l r c)
      (λ c. small_value (shape k h l) (values_in (kind_of k) a) a.exponents a.marks (corner 1 i r c))))

  pub kind_small : All Small (kind_nodes k h a)
  unfolding kind_nodes
  kind_small = all_flat_tab Small 0 h.times.maps (map_nodes k h a) small_map

  pub kind_bounded : Bounded (kind_figures k h a)
  kind_bounded = bounded_figures (kind_nodes k h a) kind_small

  -- ---- smallest and largest are values of nodes of the map, and bound all of them
  pub map_spans : (i : ℕ) → Spans (map_nodes k h a i) (map_figures k h a i).range
  unfolding figures
  map_spans i = range_spans (map_nodes k h a i)

  pub kind_spans : Spans (kind_nodes k h a) (kind_figures k h a).range
  unfolding figures
  kind_spans = range_spans (kind_nodes k h a)
