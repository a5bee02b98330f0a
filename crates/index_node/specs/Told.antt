-- What the code's answer tells, by the replies of `index`.
use Rattle.std.specs.Prelude.{◌≡◌, List, ℕ, ◌≤◌, ◌<◌, ℤ, length, drop, Result, Ok, Err}
use Rattle.kit.specs.Range.{Within}
use Rattle.mapset.specs.Grid.{layers, rows, columns}
use Rattle.mapset.specs.declared.Header.{Header}
use Rattle.index.specs.Index as index
use Rattle.index.specs.Index.{Index, Node, position, Answered, Replies, part}
use Rattle.index_block.specs.Hits.{between}
use Rattle.index_node.specs.declared.Why.{Why}
use Rattle.index_node.specs.declared.Why.TheVariants.{Unknown, Unfit, Outside, Absent, Astray}
use Rattle.index_node.specs.declared.Found.{Found}

-- the map is one of 1 to n, and the node in the grid
abbrev pub InGrid : Header → (map layer row column : ℕ) → Type 0
InGrid h map layer row column =
    Within 1 h.times.maps map × ((layer < layers h.grid) × ((row < rows h.grid) × (column < columns h.grid)))

abbrev pub number : Why → ℕ
number Unknown = 23
number Unfit = 31
number Outside = 21
number Absent = 22
number Astray = 50

-- a number, an exponent, and the bytes between two positions of the text t
abbrev pub told : List ℕ → Result Found Why → index.Reply
told t (Ok f) = index.given f.number f.exponent (between t f.start f.end)
told t (Err w) = index.refused (number w)

-- the two positions stand in the text
abbrev pub Inside : List ℕ → Result Found Why → Type 0
Inside t (Ok f) = (f.start ≤ f.end) × (f.end ≤ length t)
Inside t (Err w) = Unit {0}

-- and the first of them is `at`
abbrev pub Starts : ℕ → Result Found Why → Type 0
Starts at (Ok f) = f.start ≡ at
Starts at (Err w) = Unit {0}

-- what an entry's position and exponent answer, of the number in a column
pub record Numbers (h : Header) (d : ℕ) (t : List ℕ) (at : ℕ) (e : ℤ) (column : ℕ) (r : Result Found Why) : Type 0 where
  pub answers : Answered h d (drop at t) e column (told t r)
  pub inside : Inside t r
  pub starts : Starts at r

-- what is answered of a node
pub record Finds (x : Index) (t : List ℕ) (q : Node) (r : Result Found Why) : Type 0 where
  pub replies : Replies x t q (told t r)
  pub inside : Inside t r
  pub starts : Starts (position x q) r

-- the lines that are handed back are the reply's
abbrev pub HandsBack : Index → List ℕ → Node → List ℕ → Type 0
HandsBack x t q l = (a : index.Reply) × (Replies x t q a × (l ≡ part a))
