-- 02, Ask 8: whether a block opens at a position. The bytes from there to that line's end alone decide it (`line_decides`).
use Rattle.std.specs.Prelude.{◌≡◌, List, [], ◌∷◌, ◌++◌, ℕ, ℤ, length}
use Rattle.std.proofs.Math.Decide.{ℕ_discrete}
use Rattle.kit.specs.Answer.{pick}
use Rattle.mapset.specs.Grid.{columns}
use Rattle.mapset.specs.declared.Header.{Header}
use Rattle.layout.specs.Text.{Clean, pad}
use Rattle.layout.specs.Records.{Vals, ValueRows}
use Rattle.layout.specs.Labels.{block, layout, Rec}
use Rattle.layout.specs.Layout.{Opens}
use Rattle.index.specs.Stands.{Over, Shown}

-- the bytes of a text up to its first line's end, with that end; all of them where no line ends
unfoldable pub to_line_end : List ℕ → List ℕ
to_line_end [] = []
to_line_end (b ∷ u) = pick (ℕ_discrete b 10) (b ∷ []) (b ∷ to_line_end u)

-- the block after d others of its map opens at the start of the text u: its first line holds the opening record of that row and layer
pub record OpensAt (h : Header) (d : ℕ) (u : List ℕ) : Type 0 where
  pub line : List ℕ
  pub behind : List ℕ
  pub text : u ≡ line ++ behind
  pub ends : Over behind
  pub clean : Clean line
  pub opening : Vals (layout block)
  pub opened : Rec block opening (pad line)
  pub opens : Opens h d opening

-- the text u starts with the lines b, and those behind the first hold the values zs, as many as a row of the grid has
pub record ValueLines (h : Header) (u : List ℕ) (zs : List ℤ) (b : List ℕ) : Type 0 where
  pub row : List ℕ
  pub rows : List (List ℕ)
  pub shown : Shown (row ∷ rows) u b
  pub values : ValueRows zs rows
  pub count : length zs ≡ columns h.grid
