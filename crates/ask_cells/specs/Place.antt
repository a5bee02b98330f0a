-- Which rows and columns a place falls between. Degrees in tenths in the header, in hundredths in the question.
use Rattle.std.specs.Prelude.{◌≡◌, ◌⊎◌, ℕ, ◌+◌, ◌*◌, ◌<◌, ℤ, pos, negsuc, neg_ℤ, nat_abs, ◌+ℤ◌, ◌-ℤ◌, ◌*ℤ◌}
use Rattle.mapset.specs.Grid.{nodes}
use Rattle.mapset.specs.declared.Axis.{Axis}
use Rattle.mapset.specs.declared.Grid.{Grid}
use Rattle.ask_cells.specs.declared.Cell.{Cell}

-- x from the first of n nodes that stand `step` apart: `part` past node i toward node j; where there is no node j, `part` is 0
pub record Sits (step n x i j part : ℕ) : Type 0 where
  pub place : x ≡ step * i + part
  pub less : part < step
  pub node : i < n
  pub next : (part ≡ 0) ⊎ (j < n)

-- k in the direction of d
abbrev pub along : ℤ → ℕ → ℤ
along (pos d) k = pos k
along (negsuc d) k = neg_ℤ (pos k)

-- a latitude is `part` past row i, as the rows go
pub record InRow (a : Axis) (lat : ℤ) (i part : ℕ) : Type 0 where
  pub far : ℕ
  pub from_first : lat -ℤ (pos 10 *ℤ a.first) ≡ along a.step far
  pub sits : Sits (10 * nat_abs a.step) (nodes a) far i (i + 1) part

-- r is x brought by whole turns into 0 ≤ r < turn
pub record Turned (turn : ℕ) (x : ℤ) (r : ℕ) : Type 0 where
  pub below : r < turn
  pub turns : ℤ
  pub whole : x ≡ pos r +ℤ (pos turn *ℤ turns)

-- ---- grids that go round the whole Earth

-- LON2 + DLON = LON1 + 360.0: the column after the last is the first
abbrev pub Strip : Axis → Type 0
Strip a = a.last +ℤ a.step ≡ a.first +ℤ pos 3600

-- LON2 = LON1 + 360.0: the last column stands on the first one's meridian, and both are kept
abbrev pub Closed : Axis → Type 0
Closed a = a.last ≡ a.first +ℤ pos 3600

-- in either way
abbrev pub GoesRound : Axis → Type 0
GoesRound a = Strip a ⊎ Closed a

-- the column to the right of column i
pub data RightOf (a : Axis) (i : ℕ) : ℕ → Type 0 where
  first : Strip a → i + 1 ≡ nodes a → RightOf a i 0
  next : ¬ (Strip a × (i + 1 ≡ nodes a)) → RightOf a i (i + 1)

-- a longitude is `part` past column i toward column r. A tenth of a degree has `unit` units, the full turn 3,600 times as many
pub record InColumn (unit : ℕ) (a : Axis) (lon : ℤ) (i r part : ℕ) : Type 0 where
  pub east : ℕ
  pub from_first : Turned (unit * 3600) (lon -ℤ (pos unit *ℤ a.first)) east
  pub right : RightOf a i r
  pub sits : Sits (unit * nat_abs a.step) (nodes a) east i r part

-- a place is `down` of `tall` past the cell's row toward the next, and `across` of `wide` past its column toward the right one
pub record InCell (unit : ℕ) (g : Grid) (lat lon : ℤ) (c : Cell) : Type 0 where
  pub row : InRow g.latitudes lat c.row c.down
  pub tall : c.tall ≡ 10 * nat_abs g.latitudes.step
  pub column : InColumn unit g.longitudes lon c.column c.right c.across
  pub wide : c.wide ≡ unit * nat_abs g.longitudes.step

-- hundredths of a degree
abbrev pub InCell100 : Grid → ℤ → ℤ → Cell → Type 0
InCell100 = InCell 10
