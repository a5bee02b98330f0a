-- The index beside a text, and what is answered by the two for one node.
use Rattle.std.specs.Prelude.{◌≡◌, List, [], ℕ, ◌+◌, ◌-◌, ◌*◌, ◌≤◌, ◌<◌, ℤ, pos, length, get_or, take, drop}
use Rattle.kit.specs.Answer.{All}
use Rattle.kit.specs.Range.{Within}
use Rattle.mapset.specs.Grid.{layers, rows, columns}
use Rattle.mapset.specs.Header.{HeaderRules}
use Rattle.mapset.specs.Areas.{Areas, Present, blocks, first_of}
use Rattle.mapset.specs.declared.Header.{Header}
use Rattle.mapset.specs.Described.{FullTexts}
use Rattle.layout.specs.Layout.{Exponent, per_map}
use Rattle.areas.specs.Places.{before, place}
use Rattle.areas.specs.Valid.{values_in}
use Rattle.ask_nodes.specs.Value.{kind_of}
use Rattle.index.specs.Stands.{Stands}

-- header record and texts, marks, and of each block its position in the text and its exponent, in the order of the exponents of a map set
pub record Index : Type 0 where
  pub header : Header
  pub texts : FullTexts
  pub positions : List ℕ
  pub exponents : List ℤ
  pub marks : List ℕ

-- what is lent for an index
pub record Entries : Type 0 where
  pub positions : List ℕ
  pub exponents : List ℤ
  pub marks : List ℕ

abbrev pub entries : List ℕ → List ℤ → List ℕ → Entries
entries ps es ms = record { positions = ps; exponents = es; marks = ms }

abbrev pub index : Header → FullTexts → Entries → Index
index h x l = record { header = h; texts = x; positions = l.positions; exponents = l.exponents; marks = l.marks }

-- a valid header, lengths and marks: else 31
pub record Fit (x : Index) : Type 0 where
  pub header : HeaderRules x.header x.texts
  pub positions : 3 * blocks x.header ≤ length x.positions
  pub exponents : 3 * blocks x.header ≤ length x.exponents
  pub marks : x.header.times.maps ≤ length x.marks
  pub marked : All (λ m. m ≤ 3) (take x.header.times.maps x.marks)

-- kind 0 TEC, 1 RMS, 2 height; maps count from 1, layers, rows and columns from 0
pub record Node : Type 0 where
  pub kind : ℕ
  pub map : ℕ
  pub layer : ℕ
  pub row : ℕ
  pub column : ℕ

abbrev pub node : (kind map layer row column : ℕ) → Node
node k i l r c = record { kind = k; map = i; layer = l; row = r; column = c }

-- the map is one of 1 to n, and the node in the grid: else 21
pub record Inside (h : Header) (q : Node) : Type 0 where
  pub map : Within 1 h.times.maps q.map
  pub layer : q.layer < layers h.grid
  pub row : q.row < rows h.grid
  pub column : q.column < columns h.grid

-- how many blocks of its map stand before the node's, and the place of its entry
abbrev pub done : Header → Node → ℕ
done h q = q.layer * rows h.grid + q.row

abbrev pub entry : Header → Node → ℕ
entry h q = first_of (kind_of q.kind) (blocks h) + before (per_map h) q.map (done h q)

-- the node's number and exponent, and all numbers of its block, in the areas of a map set
abbrev pub block_in : Header → Areas → Node → List ℤ
block_in h a q = take (columns h.grid) (drop (place (per_map h) (columns h.grid) q.map (done h q)) (values_in (kind_of q.kind) a))

abbrev pub number_in : Header → Areas → Node → ℤ
number_in h a q = get_or (values_in (kind_of q.kind) a) (place (per_map h) (columns h.grid) q.map (done h q) + q.column) (pos 0)

abbrev pub exponent_in : Header → Areas → Node → ℤ
exponent_in h a q = get_or a.exponents (entry h q) (pos 0)

-- the number as written with its exponent, and the block's lines; or the number of a refusal
pub data Reply : Type 0 where
  given : ℤ → ℤ → List ℕ → Reply
  refused : ℕ → Reply

-- the answer is number n where P does not hold, and R's where it does
pub data Guard (P : Type 0) (n : ℕ) (R : P → Reply → Type 0) : Reply → Type 0 where
  stop : ¬ P → Guard P n R (refused n)
  go : {a : Reply} (p : P) → R p a → Guard P n R a

-- the block after d others of its map, at the start of the text u, under an exponent from -3 to 0: else 50
pub record Pointed (h : Header) (d : ℕ) (u : List ℕ) (e : ℤ) : Type 0 where
  pub values : List ℤ
  pub lines : List ℕ
  pub stands : Stands h d u values lines
  pub exponent : Exponent e

-- what is answered by that block, of the number in a column
abbrev pub Answered : (h : Header) (d : ℕ) (u : List ℕ) (e : ℤ) (column : ℕ) → Reply → Type 0
Answered h d u e column = Guard (Pointed h d u e) 50 (λ p a. a ≡ given (get_or p.values column (pos 0)) e p.lines)

-- the entry: where the block of the node's row and layer is said to stand, and its exponent
abbrev pub position : Index → Node → ℕ
position x q = get_or x.positions (entry x.header q) 0

abbrev pub exponent : Index → Node → ℤ
exponent x q = get_or x.exponents (entry x.header q) (pos 0)

-- the refusals in their order, then the node's number
abbrev pub Replies : Index → List ℕ → Node → Reply → Type 0
Replies x t q =
    Guard (q.kind < 3) 23 (λ _.
    Guard (Fit x) 31 (λ _.
    Guard (Inside x.header q) 21 (λ _.
    Guard (Present (kind_of q.kind) (get_or x.marks (q.map - 1) 0)) 22 (λ _.
    Answered x.header (done x.header q) (drop (position x q) t) (exponent x q) q.column))))

-- the lines that are handed back, none on a refusal
abbrev pub part : Reply → List ℕ
part (given z e b) = b
part (refused n) = []
