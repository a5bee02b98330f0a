-- What the search of the maps' cells asks for, and what it answers.
use Rattle.std.specs.Prelude.{◌≡◌, ◌⊎◌, List, ℕ, ◌+◌, ◌<◌, ◌^◌, ℤ, nat_abs, length, Option, Some, None}
use Rattle.mapset.specs.declared.Grid.{Grid}
use Rattle.ask_spans.specs.Time.{epoch}
use Rattle.ask.specs.Sun.{CellAt, Cells}
use Rattle.ask_cells.specs.declared.Cell.{Cell}
use Rattle.ask_spans.specs.declared.Shares.{Shares}

-- the grid has steps, the times are small enough, and the maps that have a share are there
pub record CanAsk (g : Grid) (t : ℕ) (es : List ℕ) (h : Shares) : Type 0 where
  pub rows : 0 < nat_abs g.latitudes.step
  pub columns : 0 < nat_abs g.longitudes.step
  pub second : t < 2 ^ 40
  pub epochs : (i : ℕ) → i < length es → epoch es i < 2 ^ 40
  pub map : h.map < length es
  pub next : (h.late ≡ 0) ⊎ (h.map + 1 < length es)

-- the two cells; none where a map has none
abbrev pub PairFound : ℕ → Grid → ℤ → ℤ → ℕ → List ℕ → Shares → Option (Cell × Cell) → Type 0
PairFound method g lat lon t es h (Some p) = Cells method g lat lon t es h p.0 p.1
PairFound method g lat lon t es h None = (e : ℕ) × ((c : Cell) → ¬ CellAt method g lat lon t e c)
