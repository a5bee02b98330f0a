-- The mean computed, and what its parts answer: the sum node by node.
use Rattle.std.specs.Prelude.{◌≡◌, ◌⊎◌, List, [], ◌∷◌, ℕ, zero, suc, ◌+◌, ◌*◌, ◌≤◌, ◌<◌, ℤ, pos, nat_abs, ◌+ℤ◌, ◌*ℤ◌, Option as Maybe, Some, None}
use Rattle.std.proofs.Math.Option.{Option, none, some}
use Rattle.std.proofs.Math.Decide.{ℕ_discrete}
use Rattle.kit.specs.Answer.{All, all_dec, pick, ⊎_dec}
use Rattle.mapset.specs.declared.Kind.{Kind}
use Rattle.mapset.specs.declared.Kind.TheVariants.{Tec as tec, Rms as rms, Height as height}
use Rattle.ask_nodes.specs.Nodes.{Reached, Small}
use Rattle.ask_nodes.specs.Units.{in_node, bare}
use Rattle.ask_round.specs.Rounded.{rounded}
use Rattle.ask_sums.specs.Mean.{left, right, next_left, next_right, spread, Term, terms, IsSome, Valued, weighted, weight}
use Rattle.ask_cells.specs.declared.Cell.{Cell}
use Rattle.ask_spans.specs.declared.Shares.{Shares}
use Rattle.ask_nodes.specs.declared.Weighed.{Weighed}
use Rattle.ask_nodes.specs.declared.Shape.{Shape}
use Rattle.ask_nodes.specs.declared.Value.{Value}
use Rattle.ask_nodes.specs.declared.Value.TheVariants as V
use Rattle.ask_sums.specs.declared.Total.{Total}
use Rattle.ask_sums.specs.declared.Sum.{Sum}
use Rattle.ask_sums.specs.declared.Sum.TheVariants as S

-- ---- `Mean`, computed
unfoldable pub valued? : (ts : List Term) → Dec (Valued ts)
valued? ts = all_dec (λ (t : Term). ⊎_dec (ℕ_discrete t.0 0) (some? t.1)) ts
  where
    some? : (o : Option ℤ) → Dec (IsSome o)
    some? none = no (λ e. e)
    some? (some v) = yes tt

unfoldable pub mean : List Term → Option ℤ
mean ts = pick (valued? ts) (some (rounded (weighted ts) (weight ts))) none

-- ---- nodes in the areas

-- each needed node is
abbrev pub Reaches : List ℤ → List ℤ → List ℕ → Shape → Weighed → Type 0
Reaches values exponents marks s n = (n.weight ≡ 0) ⊎ Reached values exponents marks s n

-- a cell and a share that are small enough for their weights: 21,600 s with 1,500 by 1,500 hundredths of a degree, 7,200 s with 6,000
-- of 1/1200
pub record Shared (share : ℕ) (c : Cell) : Type 0 where
  pub tall : c.tall ≤ 1500
  pub wide : c.wide ≤ 6000
  pub weights : share * (c.tall * c.wide) ≤ 64_800_000_000
  pub down : c.down ≤ c.tall
  pub across : c.across ≤ c.wide
  pub row : c.row ≤ 1000

-- two maps whose nodes can be summed up
pub record Summable (values exponents : List ℤ) (marks : List ℕ) (s : Shape) (h : Shares) (first second : Cell) : Type 0 where
  pub early : Shared h.early first
  pub late : Shared h.late second
  pub map : h.map ≤ 1000
  pub reaches : All (Reaches values exponents marks s) (spread h first second)
  pub weights : weight (terms s values exponents marks (spread h first second)) ≤ 64_800_000_000

-- ---- nodes

-- those of a cell, each row's right one behind the other
abbrev pub four : ℕ → ℕ → Cell → List Weighed
four share map c = left share map c ∷ right share map c ∷ next_left share map c ∷ next_right share map c ∷ []

-- the place of the other node of the row
abbrev pub beside : ℕ → ℕ
beside zero = 1
beside (suc zero) = 0
beside (suc (suc zero)) = 3
beside (suc (suc (suc k))) = 2

-- ---- sums

abbrev pub total : ℤ → ℕ → Total
total t u = record { sum = t; weights = u }

-- in the kind's unit
abbrev pub in_sum : Kind → ℤ → ℕ → Maybe Sum
in_sum tec t u = Some (S.Tecu (total t u))
in_sum rms t u = Some (S.Tecu (total t u))
in_sum height t u = Some (S.Km (total t u))

-- a value more
abbrev pub with_value : Total → ℕ → ℤ → Total
with_value t w v = total (t.sum +ℤ pos w *ℤ v) (t.weights + w)

-- a node more: in the same unit, else there is no sum
abbrev pub add_node : Maybe Sum → ℕ → Maybe Value → Maybe Sum
add_node None w n = None
add_node (Some (S.Tecu t)) w None = None
add_node (Some (S.Tecu t)) w (Some (V.Tecu v)) = Some (S.Tecu (with_value t w v.0))
add_node (Some (S.Tecu t)) w (Some (V.Km v)) = None
add_node (Some (S.Km t)) w None = None
add_node (Some (S.Km t)) w (Some (V.Tecu v)) = None
add_node (Some (S.Km t)) w (Some (V.Km v)) = Some (S.Km (with_value t w v.0))

-- a node of a kind with its weight: needed where that is not zero
abbrev pub add_value : Kind → Maybe Sum → ℕ → Option ℤ → Maybe Sum
add_value k s zero o = s
add_value k s (suc w) o = add_node s (suc w) (in_node k o)

unfoldable pub add_all : Kind → Maybe Sum → List Term → Maybe Sum
add_all k s [] = s
add_all k s (t ∷ ts) = add_all k (add_value k s t.0 t.1) ts

-- from nothing on
abbrev pub sum_all : Kind → List Term → Maybe Sum
sum_all k ts = add_all k (in_sum k (pos 0) 0) ts

-- the sum is no larger than its weight allows, and there is room for the weight w
abbrev pub Fits : ℤ → ℕ → ℕ → Type 0
Fits t u w = (nat_abs t ≤ u * 99_999_000) × (u + w ≤ 64_800_000_000)

abbrev pub SumRoom : Maybe Sum → ℕ → Type 0
SumRoom None w = w ≤ 64_800_000_000
SumRoom (Some (S.Tecu t)) w = Fits t.sum t.weights w
SumRoom (Some (S.Km t)) w = Fits t.sum t.weights w

abbrev pub InRange : Maybe Value → Type 0
InRange n = Small (bare n)

-- a sum that has weight
abbrev pub Ready : Maybe Sum → Type 0
Ready None = Unit {0}
Ready (Some (S.Tecu t)) = Fits t.sum t.weights 0 × (0 < t.weights)
Ready (Some (S.Km t)) = Fits t.sum t.weights 0 × (0 < t.weights)
