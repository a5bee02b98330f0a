-- A node and a block by an index as they cross to other languages: a number, and an area of the call's own.
use Rattle.std.specs.Prelude.{◌≡◌, List, [], ◌∷◌, ℕ, ◌-◌, ◌≤◌, ℤ, length, Result, Ok, Err}
use Rattle.kit.specs.Lists.{front}
use Rattle.c_given.specs.Given.{header_of, texts_of}
use Rattle.c_answers.specs.Own.{too_short}
use Rattle.index.specs.Index as index
use Rattle.index.specs.Index.{Index, Entries, Node, Replies, position}
use Rattle.index_node.specs.Told.{number}
use Rattle.index_node.specs.declared.Found.{Found}
use Rattle.index_node.specs.declared.Why.{Why}

-- 0 for an answer, or 02's number
abbrev pub told_number : index.Reply → ℕ
told_number (index.given z e b) = 0
told_number (index.refused n) = n

-- the number as written, and its exponent
abbrev pub told_value : index.Reply → List ℤ
told_value (index.given z e b) = z ∷ e ∷ []
told_value (index.refused n) = []

-- where the lines start, and how many bytes they have
abbrev pub told_bounds : ℕ → index.Reply → List ℕ
told_bounds at (index.given z e b) = at ∷ length b ∷ []
told_bounds at (index.refused n) = []

-- the index, by the caller's numbers and bytes
abbrev pub index_of : List ℤ → List ℕ → Entries → Index
index_of h x l = index.index (header_of h) (texts_of x) l

-- the number answered, and what is then in the area for the value
pub data NodeCrosses (h : List ℤ) (x : List ℕ) (l : Entries) (t : List ℕ) (q : Node) (v : List ℤ) : ℕ → List ℤ → Type 0 where
  short : (k : ℕ) → k ≡ too_short (length h) (length x) (length v) 2 → 1 ≤ k → NodeCrosses h x l t q v k v
  answered : too_short (length h) (length x) (length v) 2 ≡ 0 → (a : index.Reply) → Replies (index_of h x l) t q a → NodeCrosses h x l t q v (told_number a) (front (told_value a) v)

-- the number answered, and what is then in the area for the bounds
pub data BlockCrosses (h : List ℤ) (x : List ℕ) (l : Entries) (t : List ℕ) (q : Node) (v : List ℕ) : ℕ → List ℕ → Type 0 where
  short : (k : ℕ) → k ≡ too_short (length h) (length x) (length v) 2 → 1 ≤ k → BlockCrosses h x l t q v k v
  answered : too_short (length h) (length x) (length v) 2 ≡ 0 → (a : index.Reply) → Replies (index_of h x l) t q a
      → BlockCrosses h x l t q v (told_number a) (front (told_bounds (position (index_of h x l) q) a) v)

-- ---- the same of the code's reply

abbrev pub number_in : Result Found Why → ℕ
number_in (Ok f) = 0
number_in (Err w) = number w

abbrev pub value_in : Result Found Why → List ℤ
value_in (Ok f) = f.number ∷ f.exponent ∷ []
value_in (Err w) = []

abbrev pub bounds_in : Result Found Why → List ℕ
bounds_in (Ok f) = f.start ∷ (f.end - f.start) ∷ []
bounds_in (Err w) = []

abbrev pub Ordered : Result Found Why → Type 0
Ordered (Ok f) = f.start ≤ f.end
Ordered (Err w) = Unit {0}
