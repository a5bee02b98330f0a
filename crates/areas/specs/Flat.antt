-- 01, 'What comes back': the six lists of a map set, each as long as its area needs to be.
use Rattle.std.specs.Prelude.{Bool, true, false, List, [], ◌∷◌, ◌++◌, map, ℕ, replicate, ℤ, pos, negsuc}
use Rattle.std.proofs.Math.Option.{Option, none, some}
use Rattle.std.proofs.Math.Decide.{ℕ_discrete}
use Rattle.kit.specs.Answer.{pick}
use Rattle.mapset.specs.Grid.{columns}
use Rattle.mapset.specs.MapSet.{Block, OtherMap, Maps, MapSet}
use Rattle.mapset.specs.Areas.{Areas}
use Rattle.layout.specs.Layout.{per_map}
use Rattle.areas.specs.Lists.{flat, tab}

-- Throughout: n maps of a kind, of B blocks each (layer by layer, row by row), of C values each.

-- ---- the maps of a kind, one for each TEC map

-- the blocks of the map of number i, if there is one
abbrev pub found : List OtherMap → ℕ → Option (List Block)
found [] i = none
found (x ∷ xs) i = pick (ℕ_discrete x.of i) (some x.blocks) (found xs i)

-- an absent map reads as 9999 everywhere with exponent -1
abbrev pub absent_block : ℕ → Block
absent_block C = record { exponent = negsuc 0; values = replicate C (pos 9999) }

abbrev pub or_absent : (B C : ℕ) → Option (List Block) → List Block
or_absent B C none = replicate B (absent_block C)
or_absent B C (some bs) = bs

-- the numbers 1 to n: what there is of each, and how it reads
abbrev pub Slots : Type 0
Slots = List (Option (List Block))

abbrev pub slots : ℕ → List OtherMap → Slots
slots n xs = tab 1 n (found xs)

abbrev pub reads : (B C : ℕ) → Slots → List (List Block)
reads B C ss = map (or_absent B C) ss

abbrev pub tec_blocks : Maps → List (List Block)
tec_blocks m = map (λ t. t.blocks) m.tec

-- ---- values, exponents, marks

-- map by map, layer, row, column
abbrev pub values_of : List (List Block) → List ℤ
values_of g = flat (map (λ b. b.values) (flat g))

-- per block
abbrev pub exponents_of : List (List Block) → List ℤ
exponents_of g = map (λ b. b.exponent) (flat g)

-- a kind with no map needs no value area
abbrev pub wanted : List OtherMap → List ℤ → List ℤ
wanted [] v = []
wanted (x ∷ xs) v = v

-- 1 RMS, 2 height, 3 both, 0 neither
abbrev pub mark : Bool → Bool → ℕ
mark false false = 0
mark true false = 1
mark false true = 2
mark true true = 3

abbrev pub there : {X : Type 0} → Option X → Bool
there none = false
there (some x) = true

-- ---- the areas; the exponents of the three kinds stand one after the other
unfoldable pub areas_of : (n B C : ℕ) → Maps → Areas
areas_of n B C m =
    record {
      tec = values_of (tec_blocks m);
      rms = wanted m.rms (values_of (reads B C (slots n m.rms)));
      height = wanted m.height (values_of (reads B C (slots n m.height)));
      exponents = exponents_of (tec_blocks m) ++ (exponents_of (reads B C (slots n m.rms)) ++ exponents_of (reads B C (slots n m.height)));
      epochs = map (λ t. t.epoch) m.tec;
      marks = tab 1 n (λ i. mark (there (found m.rms i)) (there (found m.height i)));
    }

abbrev pub areas : MapSet → Areas
areas m = areas_of m.header.times.maps (per_map m.header) (columns m.header.grid) m.maps
