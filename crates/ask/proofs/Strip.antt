-- A grid that goes round refuses no place for its longitude. In the strip the answer is made of the last and the first column.
use mathlib.Core.Path.{◌≡◌, refl, ap₂, ◌∙◌}
use mathlib.Core.Logic.{◌⊎◌, inl, inr, ⊎_elim}
use mathlib.Core.List.{List, ◌++◌}
use Prim.Native.Nat.{ℕ, ◌+◌, ◌-◌, ◌*◌, ◌<◌}
use native.Mathlib.Decide.{ℕ_discrete}
use native.Mathlib.Omega.{arith}
use lib.IntN.{ℤ, nat_abs}
use Rattle.kit.specs.Answer.{All}
use Rattle.kit.proofs.ListLaws.{all_append}
use Rattle.mapset.specs.Grid.{longitudes, AxisRules, layers, columns}
use Rattle.mapset.specs.Areas.{Sound}
use Rattle.mapset.specs.declared.Grid.{Grid}
use Rattle.mapset.proofs.Groups.{header_groups}
use Rattle.ask_cells.specs.Place.{InRow, Strip, GoesRound, InCell, InCell100}
use Rattle.ask_cells.proofs.EarthLaws.{round_inside, strip_right}
use Rattle.ask_sums.specs.Mean.{corners, spread}
use Rattle.ask_sums.proofs.SumLaws.{all_corners}
use Rattle.ask_spans.specs.Time.{epoch}
use Rattle.ask.specs.Sun.{unit_of, lon_at, CellAt, Cells}
use Rattle.ask.specs.Ask.{Question, epochs, Served, Inside, Weighs}
use Rattle.ask.proofs.AskLaws.{unit_small, plain_unit, plain_lon}
use Rattle.ask.proofs.Once.{first_once, second_once}
use Rattle.ask_cells.specs.declared.Cell.{Cell}
use Rattle.ask_spans.specs.declared.Shares.{Shares}
use Rattle.ask_nodes.specs.declared.Weighed.{Weighed}

-- ---- the nodes of a cell by their columns
-- in one of two columns
abbrev pub Stands : ℕ → ℕ → Weighed → Type 0
Stands x y n = (n.column ≡ x) ⊎ (n.column ≡ y)

corners_of : (t m : ℕ) (c : Cell) (x y : ℕ) → c.column ≡ x → c.right ≡ y → All (Stands x y) (corners t m c)
corners_of t m c x y e f = all_corners t m c (Stands x y) (inl e) (inr f) (inl e) (inr f)

spread_of : (h : Shares) (c : Cell) (x y : ℕ) → c.column ≡ x → c.right ≡ y → All (Stands x y) (spread h c c)
unfolding spread
spread_of h c x y e f =
    all_append (Stands x y) (corners h.early h.map c) (corners h.late (h.map + 1) c) (corners_of h.early h.map c x y e f) (corners_of h.late (h.map + 1) c x y e f)

-- on a column all the weight is that column's
pub left_weight : (t m : ℕ) (c : Cell) → c.across ≡ 0 → All (λ (n : Weighed). (n.weight ≡ 0) ⊎ (n.column ≡ c.column)) (corners t m c)
left_weight t m c e =
    all_corners t m c (λ (n : Weighed). (n.weight ≡ 0) ⊎ (n.column ≡ c.column)) (inr refl) (inl (rw e (omega arith))) (inr refl) (inl (rw e (omega arith)))

pub right_weight : (t m : ℕ) (c : Cell) → c.across ≡ c.wide → All (λ (n : Weighed). (n.weight ≡ 0) ⊎ (n.column ≡ c.right)) (corners t m c)
right_weight t m c e =
    let z : c.wide - c.across ≡ 0 = omega arith in
    all_corners t m c (λ (n : Weighed). (n.weight ≡ 0) ⊎ (n.column ≡ c.right)) (inl (rw z (omega arith))) (inr refl) (inl (rw z (omega arith))) (inr refl)

-- ---- methods 0 and 1 ask every map at the place itself
module _ (m : ℕ) (h : m < 2) (g : Grid) (lat lon : ℤ) (t e : ℕ) (c : Cell) where
  plain_cell : CellAt m g lat lon t e c → InCell100 g lat lon c
  plain_cell i = rw (plain_unit m h, plain_lon m h lon t e) at i

  pub cell_plain : InCell100 g lat lon c → CellAt m g lat lon t e c
  cell_plain i = rw (plain_unit m h, plain_lon m h lon t e) i

pub plain_cells : (m : ℕ) → m < 2 → (g : Grid) (lat lon : ℤ) (t : ℕ) (es : List ℕ) (h : Shares) (c : Cell) → CellAt m g lat lon t (epoch es h.map) c → Cells m g lat lon t es h c c
plain_cells m p g lat lon t es h c i = record { first_in = i; second_in = by (ℕ_discrete h.late 0) }
  where
    by : Dec (h.late ≡ 0) → ((h.late ≡ 0) × (c ≡ c)) ⊎ ((0 < h.late) × CellAt m g lat lon t (epoch es (h.map + 1)) c)
    by (yes z) = inl (z, refl)
    by (no z) = inr (omega arith, cell_plain m p g lat lon t (epoch es (h.map + 1)) c (plain_cell m p g lat lon t (epoch es h.map) c i))

module _ (q : Question) (sound : Sound q.header q.texts q.areas) where
  pub longitudes_ok : AxisRules longitudes q.header.grid.longitudes
  longitudes_ok = (header_groups q.header q.texts sound.header).1.1.1.1.0.1.1

  -- ---- where the grid goes round, 21 is for the layer and the latitude alone
  round_cell : GoesRound q.header.grid.longitudes → (unit : ℕ) → 0 < unit → (lat lon : ℤ) (row down : ℕ) → InRow q.header.grid.latitudes lat row down → (c : Cell) × InCell unit q.header.grid lat lon c
  round_cell g unit some lat lon row down r =
      let a = q.header.grid.longitudes in
      let x = round_inside a longitudes_ok unit some lon g in
      (record { row = row; down = down; tall = 10 * nat_abs q.header.grid.latitudes.step; column = x.0; right = x.1.0; across = x.1.1.0; wide = unit * nat_abs a.step }, record { row = r; tall = refl; column = x.1.1.1; wide = refl })

  pub inside_round : GoesRound q.header.grid.longitudes → q.layer < layers q.header.grid → (row down : ℕ) → InRow q.header.grid.latitudes q.lat row down → Inside q
  inside_round g l row down r = let x = round_cell g 10 (omega arith) q.lat q.lon row down r in record { layer = l; cell = x.0; place = x.1 }

  -- ---- the place is inside exactly where a map has its cell, whatever the map's epoch
  pub placed : Served q → Inside q → (e : ℕ) → (c : Cell) × CellAt q.method q.header.grid q.lat q.lon q.second e c
  placed (inl m) i e = (i.cell, cell_plain q.method m q.header.grid q.lat q.lon q.second e i.cell i.place)
  placed (inr t) i e = round_cell t.round (unit_of q.method) (unit_small q.method).0 q.lat (lon_at q.method q.lon q.second e) i.cell.row i.cell.down i.place.row

  pub inside_of : Served q → q.layer < layers q.header.grid → (e : ℕ) (c : Cell) → CellAt q.method q.header.grid q.lat q.lon q.second e c → Inside q
  inside_of (inl m) l e c i = record { layer = l; cell = c; place = plain_cell q.method m q.header.grid q.lat q.lon q.second e c i }
  inside_of (inr t) l e c i = inside_round t.round l c.row c.down i.row

  -- ---- in the strip each node stands in the last or in the first column. `between` says that the answer lies between them
  weighs_is : q.method < 2 → (ns : List Weighed) (w : Weighs q ns) (c : Cell) → InCell100 q.header.grid q.lat q.lon c → ns ≡ spread w.shares c c
  weighs_is m ns w c i =
      let x = plain_cells q.method m q.header.grid q.lat q.lon q.second (epochs q) w.shares c (cell_plain q.method m q.header.grid q.lat q.lon q.second (epoch (epochs q) w.shares.map) c i) in
      w.nodes
      ∙ ap₂ (spread w.shares) (first_once q.method q.header.grid q.lat q.lon q.second (epochs q) w.shares w.first w.second c c w.cells x)
      (second_once q.method q.header.grid q.lat q.lon q.second (epochs q) w.shares w.first w.second c c w.cells x)

  pub strip_nodes : q.method < 2 → (ns : List Weighed) → Weighs q ns → (c : Cell) → InCell100 q.header.grid q.lat q.lon c → Strip q.header.grid.longitudes → c.column + 1 ≡ columns q.header.grid →
      All (Stands (columns q.header.grid - 1) 0) ns
  strip_nodes m ns w c i h e =
      let l : c.column ≡ columns q.header.grid - 1 = omega arith in
      let r : c.right ≡ 0 = strip_right q.header.grid.longitudes h c.right (rw l at i.column.right) in
      rw (weighs_is m ns w c i) (spread_of w.shares c (columns q.header.grid - 1) 0 l r)

-- ---- by any method: where a map's cell is past the last column, each of its nodes stands in the last or in the first. `between` says that the answer lies between them
module _ (q : Question) (ns : List Weighed) (w : Weighs q ns) (h : Strip q.header.grid.longitudes) where
  abbrev InStrip : Cell → Type 0
  InStrip c = c.column + 1 ≡ columns q.header.grid

  abbrev Ends : Weighed → Type 0
  Ends = Stands (columns q.header.grid - 1) 0

  ends : (t m e : ℕ) (c : Cell) → CellAt q.method q.header.grid q.lat q.lon q.second e c → InStrip c → All Ends (corners t m c)
  ends t m e c i s =
      let l : c.column ≡ columns q.header.grid - 1 = omega arith in
      let r : c.right ≡ 0 = strip_right q.header.grid.longitudes h c.right (rw l at i.column.right) in
      corners_of t m c (columns q.header.grid - 1) 0 l r

  ends_second : InStrip w.second → All Ends (corners w.shares.late (w.shares.map + 1) w.second)
  ends_second s =
      ⊎_elim (λ z. ends w.shares.late (w.shares.map + 1) (epoch (epochs q) w.shares.map) w.second (rw z.1 w.cells.first_in) s)
      (λ z. ends w.shares.late (w.shares.map + 1) (epoch (epochs q) (w.shares.map + 1)) w.second z.1 s) w.cells.second_in

  pub strip_ends : (ns ≡ corners w.shares.early w.shares.map w.first ++ corners w.shares.late (w.shares.map + 1) w.second)
      × ((InStrip w.first → All Ends (corners w.shares.early w.shares.map w.first))
      × (InStrip w.second → All Ends (corners w.shares.late (w.shares.map + 1) w.second)))
  unfolding spread
  strip_ends = (w.nodes, (ends w.shares.early w.shares.map (epoch (epochs q) w.shares.map) w.first w.cells.first_in, ends_second))
