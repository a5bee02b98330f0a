-- Rows by the place of their label in 01's list, and what has to hold of the numbers that are written.
-- the columns of a layout, then the k-th label
use Rattle.std.specs.Prelude.{List, [], ◌∷◌, ◌++◌, ℕ, ◌/◌, ◌%◌, ◌<◌, ◌^◌, get_or}
use Rattle.mapset.specs.declared.Grid.{Grid}
use Rattle.mapset.specs.Grid.{rows}
use Rattle.layout.specs.Records.{Item, I, F, X, Vals}
use Rattle.layout.specs.Labels.{layout, block}
use Rattle.layout.specs.Layout.{node}
use Rattle.layout.specs.Names.{names}
use Rattle.canonical.specs.Canon.{columns_of, Wide}

unfoldable pub row_at : ℕ → (is : List Item) → Vals is → List ℕ
row_at k is v = columns_of is v ++ get_or names k []

-- I6,54X and 2X,3F6.1,40X
abbrev pub whole : List Item
whole = I 6 ∷ X 54 ∷ []

abbrev pub three : List Item
three = X 2 ∷ F 6 ∷ F 6 ∷ F 6 ∷ X 40 ∷ []

abbrev pub six_whole : List Item
six_whole = I 6 ∷ I 6 ∷ I 6 ∷ I 6 ∷ I 6 ∷ I 6 ∷ X 24 ∷ []

-- `opening` by the grid
abbrev pub opening_of : Grid → ℕ → Vals (layout block)
opening_of g d = (
  node g.latitudes (d % rows g),
  (g.longitudes.first, (g.longitudes.last, (g.longitudes.step, (node g.heights (d / rows g), tt)))),
)

-- the nodes of the block after d others have a place in their columns
pub record Placed (g : Grid) (d : ℕ) : Type 0 where
  pub few : d < 2 ^ 31
  pub latitude : Wide (node g.latitudes (d % rows g))
  pub height : Wide (node g.heights (d / rows g))
