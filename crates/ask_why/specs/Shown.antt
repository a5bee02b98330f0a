-- The nodes that an explanation shows: their weights, their weighted sum and their order.
use Rattle.std.specs.Prelude.{◌≡◌, List, [], ◌∷◌, ◌⊎◌, ℕ, ◌+◌, ◌<◌, ℤ, pos, ◌+ℤ◌, ◌*ℤ◌, take}
use Rattle.std.proofs.Math.Option.{none}
use Rattle.kit.specs.Answer.{All}
use Rattle.ask_nodes.specs.Units.{bare}
use Rattle.ask_nodes.specs.Value.{or_zero}
use Rattle.ask_nodes.specs.declared.Weighed.{Weighed}
use Rattle.ask.specs.Ask.{Question}
use Rattle.ask_why.specs.Explain.{needed, value_of, listed, CauseAt}
use Rattle.ask_why.specs.declared.Needed.{Needed}
use Rattle.ask_why.specs.declared.Lacking.{Lacking}
use Rattle.ask_why.specs.declared.Explanation.{Explanation}

abbrev pub shown : Explanation → List Needed
shown e = take e.count e.nodes

unfoldable pub weights : List Needed → ℕ
weights [] = 0
weights (n ∷ ns) = n.weight + weights ns

-- of weight times value in thousandths of its unit
unfoldable pub weighted_sum : List Needed → ℤ
weighted_sum [] = pos 0
weighted_sum (n ∷ ns) = pos n.weight *ℤ or_zero (bare n.value) +ℤ weighted_sum ns

-- the order map, row, column
pub data Before (m n : Needed) : Type 0 where
  by_map : m.map < n.map → Before m n
  by_row : m.map ≡ n.map → m.row < n.row → Before m n
  by_column : m.map ≡ n.map → m.row ≡ n.row → m.column < n.column → Before m n

-- each stands before all behind it, so none is there twice
abbrev pub Rising : List Needed → Type 0
Rising [] = Unit {0}
Rising (n ∷ ns) = All (Before n) ns × Rising ns

-- n is one of a list
pub data Among {A : Type 0} (n : A) : List A → Type 0 where
  first : {l : List A} → Among n (n ∷ l)
  later : {m : A} {l : List A} → Among n l → Among n (m ∷ l)

-- of the nodes ns that a question weighs, 22 names with its cause a needed one without a value, and every other such node comes after it in the
-- order map, row, column
pub record NamesFirst (q : Question) (ns : List Weighed) (l : Lacking) : Type 0 where
  pub node : Weighed
  pub is_needed : Among node (needed ns)
  pub lacks : value_of q node ≡ none
  pub cause : CauseAt q node l.cause
  pub map : l.map ≡ (listed q node).map
  pub layer : l.layer ≡ (listed q node).layer
  pub row : l.row ≡ (listed q node).row
  pub column : l.column ≡ (listed q node).column
  pub others : (n : Weighed) → Among n (needed ns) → value_of q n ≡ none → (n ≡ node) ⊎ Before (listed q node) (listed q n)
