-- One kind of a set into the figures so far.
use Rattle.std.specs.Prelude.{List, ℕ, ◌+◌, ◌*◌, ◌≤◌, ◌<◌, ℤ, length, take, drop}
use Rattle.std.proofs.lemmas.List.Edits.{sets}
use Rattle.mapset.specs.Grid.{columns, Limits}
use Rattle.mapset.specs.Areas.{blocks, first_of}
use Rattle.mapset.specs.declared.Header.{Header}
use Rattle.layout.specs.Layout.{per_map}
use Rattle.ask_nodes.specs.Value.{kind_of}
use Rattle.week_tally.specs.Figures.{figures, joined, Ready}
use Rattle.week_tally.specs.declared.Tally.{Tally}
use Rattle.week_set.specs.SetFigures.{rows_need}
use Rattle.week_set.specs.Parts.{parts_nodes, parts_rows, KindHolds}

pub record Takes (t : Tally) (k : ℕ) (h : Header) (vs es : List ℤ) (ms : List ℕ) (lent : List ℤ) : Type 0 where
  pub ready : Ready t
  pub kind : k < 3
  pub maps : h.times.maps ≤ 300
  pub limits : Limits h.times.maps h.grid
  pub marks : h.times.maps ≤ length ms
  pub exponents : 3 * blocks h ≤ length es
  pub rows : rows_need h ≤ length lent
  pub holds : KindHolds k (per_map h) (columns h.grid) (take h.times.maps ms) vs (drop (first_of (kind_of k) (blocks h)) es)

unfoldable pub taken : (t : Tally) (k : ℕ) (h : Header) (vs es : List ℤ) (ms : List ℕ) → Tally
taken t k h vs es ms = joined t (figures (parts_nodes k (per_map h) (columns h.grid) (take h.times.maps ms) vs (drop (first_of (kind_of k) (blocks h)) es)))

-- the kind's rows stand behind those of the kinds before it
unfoldable pub stored : (k : ℕ) (h : Header) (vs es : List ℤ) (ms : List ℕ) (rows : List ℤ) → List ℤ
stored k h vs es ms rows = sets rows (k * (5 * (h.times.maps + 1))) (parts_rows k (per_map h) (columns h.grid) (take h.times.maps ms) vs (drop (first_of (kind_of k) (blocks h)) es))
