-- The figures of nodes. A node is its value in thousandths, or that it has none.
use Rattle.std.specs.Prelude.{Option as Maybe, Some, None, List, [], ◌∷◌, ℕ, suc, ◌+◌, ◌*◌, ◌≤◌, ℤ, pos, nat_abs, ◌+ℤ◌, zero, ◌≤ℤ◌}
use Rattle.std.proofs.Math.Option.{Option, none, some}
use Rattle.kit.specs.Answer.{pick}
use Rattle.kit.specs.Integer.{le?}
use Rattle.week_tally.specs.Gathered.{gathered}
use Rattle.week_tally.specs.declared.Tally.{Tally}
use Rattle.week_tally.specs.declared.Range.{Range}
use Rattle.ask_nodes.specs.Value.{or_zero}

-- ---- counts
unfoldable pub given : List (Option ℤ) → ℕ
given [] = 0
given (none ∷ ns) = given ns
given (some v ∷ ns) = suc (given ns)

unfoldable pub lacking : List (Option ℤ) → ℕ
lacking [] = 0
lacking (none ∷ ns) = suc (lacking ns)
lacking (some v ∷ ns) = lacking ns

-- ---- smallest and largest
abbrev pub smaller : ℤ → ℤ → ℤ
smaller a b = pick (le? a b) a b

abbrev pub larger : ℤ → ℤ → ℤ
larger a b = pick (le? b a) a b

abbrev pub from : (smallest largest : ℤ) → Maybe Range
from a b = Some (record { smallest = a; largest = b })

abbrev pub hull : Maybe Range → Maybe Range → Maybe Range
hull None s = s
hull (Some r) None = Some r
hull (Some r) (Some s) = from (smaller r.smallest s.smallest) (larger r.largest s.largest)

abbrev pub point : Option ℤ → Maybe Range
point none = None
point (some v) = from v v

unfoldable pub range : List (Option ℤ) → Maybe Range
range [] = None
range (n ∷ ns) = hull (point n) (range ns)

-- ---- sum
unfoldable pub sum : List (Option ℤ) → ℤ
sum [] = pos 0
sum (n ∷ ns) = or_zero n +ℤ sum ns

-- ---- the four together
unfoldable pub figures : List (Option ℤ) → Tally
figures ns = record { given = given ns; lacking = lacking ns; range = range ns; sum = sum ns }

-- ---- figures combined, with those of no nodes as the neutral element
unfoldable pub joined : Tally → Tally → Tally
joined t u =
    record {
      given = t.given + u.given;
      lacking = t.lacking + u.lacking;
      range = hull t.range u.range;
      sum = t.sum +ℤ u.sum;
    }

-- of nodes none of which has a value
abbrev pub empty : ℕ → Tally
empty k = record { given = 0; lacking = k; range = None; sum = pos 0 }

abbrev pub nothing : Tally
nothing = empty 0

abbrev pub total : List Tally → Tally
total ts = gathered joined nothing ts

-- of one node
abbrev pub single : Option ℤ → Tally
single n = figures (n ∷ [])

-- ---- how large the numbers are
abbrev pub nodes_in : Tally → ℕ
nodes_in t = t.given + t.lacking

-- a sum is at most what its nodes can add up to
abbrev pub Bounded : Tally → Type 0
Bounded t = nat_abs t.sum ≤ t.given * 99_999_000

-- small enough to be combined with another such
abbrev pub Ready : Tally → Type 0
Ready t = Bounded t × (nodes_in t ≤ 1_000_000_000)

-- there is a smallest and a largest exactly where a node has a value
abbrev pub Fit : ℕ → Maybe Range → Type 0
Fit zero None = Unit {0}
Fit zero (Some r) = ⊥
Fit (suc k) None = ⊥
Fit (suc k) (Some r) = r.smallest ≤ℤ r.largest
