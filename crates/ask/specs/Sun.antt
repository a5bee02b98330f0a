-- Where each map is asked. Methods 2 and 3 turn the maps with the Sun: source document 001's formula (3), and its nearest map moved likewise.
use Rattle.std.specs.Prelude.{◌≡◌, ◌⊎◌, List, ℕ, zero, suc, ◌+◌, ◌≤◌, ◌<◌, ℤ, pos, nat_abs, ◌+ℤ◌, ◌-ℤ◌, ◌*ℤ◌}
use Rattle.mapset.specs.declared.Axis.{Axis}
use Rattle.mapset.specs.declared.Grid.{Grid}
use Rattle.ask_cells.specs.Place.{GoesRound, InCell}
use Rattle.ask_spans.specs.Time.{epoch, Close}
use Rattle.ask_cells.specs.declared.Cell.{Cell}
use Rattle.ask_spans.specs.declared.Shares.{Shares}

-- which maps with which shares: methods 2 and 3 take those of methods 1 and 0
abbrev pub in_time : ℕ → ℕ
in_time zero = 0
in_time (suc zero) = 1
in_time (suc (suc zero)) = 1
in_time (suc (suc (suc m))) = 0

-- the units of a tenth of a degree of longitude: hundredths of a degree, for methods 2 and 3 1/1200 of a degree
abbrev pub unit_of : ℕ → ℕ
unit_of zero = 10
unit_of (suc zero) = 10
unit_of (suc (suc m)) = 120

-- the longitude moved by the time since a map's epoch e, one degree in 240 s: in 1/1200 of a degree, of which a hundredth of a degree
-- has 12 and a second moves by 5
abbrev pub moved : ℤ → ℕ → ℕ → ℤ
moved lon t e = pos 12 *ℤ lon +ℤ pos 5 *ℤ (pos t -ℤ pos e)

-- where a map with epoch e is asked
abbrev pub lon_at : ℕ → ℤ → ℕ → ℕ → ℤ
lon_at zero lon t e = lon
lon_at (suc zero) lon t e = lon
lon_at (suc (suc m)) lon t e = moved lon t e

abbrev pub CellAt : ℕ → Grid → ℤ → ℤ → ℕ → ℕ → Cell → Type 0
CellAt method g lat lon t e c = InCell (unit_of method) g lat (lon_at method lon t e) c

-- each map has its own cell; where one map is used alone, the second cell is the first
pub record Cells (method : ℕ) (g : Grid) (lat lon : ℤ) (t : ℕ) (es : List ℕ) (h : Shares) (first second : Cell) : Type 0 where
  pub first_in : CellAt method g lat lon t (epoch es h.map) first
  pub second_in : ((h.late ≡ 0) × (second ≡ first)) ⊎ ((0 < h.late) × CellAt method g lat lon t (epoch es (h.map + 1)) second)

-- the grid goes round the whole Earth, DLON is at most 5.0, and no two neighbouring epochs are more than 7,200 s apart
pub record Turns (a : Axis) (es : List ℕ) : Type 0 where
  pub round : GoesRound a
  pub step : nat_abs a.step ≤ 50
  pub close : Close 7200 es

-- which is asked for by methods 2 and 3 only
abbrev pub Serves : ℕ → Axis → List ℕ → Type 0
Serves method a es = (method < 2) ⊎ Turns a es
