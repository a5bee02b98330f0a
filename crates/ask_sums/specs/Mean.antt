-- The nodes of a question with their weights, and their weighted mean, rounded once.
use Rattle.std.specs.Prelude.{◌≡◌, ◌⊎◌, List, [], ◌∷◌, ◌++◌, ℕ, ◌+◌, ◌-◌, ◌*◌, ℤ, pos, ◌+ℤ◌, ◌*ℤ◌}
use Rattle.std.proofs.Math.Option.{Option, none, some}
use Rattle.std.proofs.Math.Decide.{dec_lt}
use Rattle.kit.specs.Answer.{All, pick}
use Rattle.ask_round.specs.Round.{Nearest}
use Rattle.ask_nodes.specs.Value.{value, corner, or_zero}
use Rattle.ask_cells.specs.declared.Cell.{Cell}
use Rattle.ask_spans.specs.declared.Shares.{Shares}
use Rattle.ask_nodes.specs.declared.Weighed.{Weighed}
use Rattle.ask_nodes.specs.declared.Shape.{Shape}

-- ---- the four nodes of a cell: 001's four-point formula times `tall` times `wide`, and a map's share

abbrev pub left : ℕ → ℕ → Cell → Weighed
left share map c = corner (share * ((c.tall - c.down) * (c.wide - c.across))) map c.row c.column

abbrev pub right : ℕ → ℕ → Cell → Weighed
right share map c = corner (share * ((c.tall - c.down) * c.across)) map c.row c.right

abbrev pub next_left : ℕ → ℕ → Cell → Weighed
next_left share map c = corner (share * (c.down * (c.wide - c.across))) map (c.row + 1) c.column

abbrev pub next_right : ℕ → ℕ → Cell → Weighed
next_right share map c = corner (share * (c.down * c.across)) map (c.row + 1) c.right

-- two nodes of a row by their column's number: where the right column is the first of the grid, the right one comes first
unfoldable pub by_column : Cell → Weighed → Weighed → List Weighed
by_column c l r = pick (dec_lt c.right c.column) (r ∷ l ∷ []) (l ∷ r ∷ [])

-- the row's two, then the next row's
unfoldable pub corners : ℕ → ℕ → Cell → List Weighed
corners share map c = by_column c (left share map c) (right share map c) ++ by_column c (next_left share map c) (next_right share map c)

-- the nodes of a map and of the next one with their weights, each map with a cell of its own
unfoldable pub spread : Shares → Cell → Cell → List Weighed
spread s first second = corners s.early s.map first ++ corners s.late (s.map + 1) second

-- ---- weighted means

-- a weight, and the thousandths of its node or none
abbrev pub Term : Type 0
Term = ℕ × Option ℤ

unfoldable pub terms : Shape → List ℤ → List ℤ → List ℕ → List Weighed → List Term
terms s values exponents marks [] = []
terms s values exponents marks (n ∷ ns) = (n.weight, value s values exponents marks n) ∷ terms s values exponents marks ns

abbrev pub IsSome : Option ℤ → Type 0
IsSome none = ⊥
IsSome (some v) = Unit {0}

-- each needed node has a value: needed is a node whose weight is not zero
abbrev pub Valued : List Term → Type 0
Valued ts = All (λ (t : Term). (t.0 ≡ 0) ⊎ IsSome t.1) ts

-- the sum of weight times value, and the sum of the weights
unfoldable pub weighted : List Term → ℤ
weighted [] = pos 0
weighted (t ∷ ts) = pos t.0 *ℤ or_zero t.1 +ℤ weighted ts

unfoldable pub weight : List Term → ℕ
weight [] = 0
weight (t ∷ ts) = t.0 + weight ts

-- v is the mean, rounded once
abbrev pub Mean : List Term → ℤ → Type 0
Mean ts v = Nearest (weighted ts) (weight ts) v
