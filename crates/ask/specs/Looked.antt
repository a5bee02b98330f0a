-- What the code says of a set that is looked at once, and of one question after that.
use Rattle.std.specs.Prelude.{◌≡◌, List, ℕ, ◌<◌, ℤ, Result, Ok, Err}
use Rattle.mapset.specs.Areas.{Areas}
use Rattle.mapset.specs.declared.Header.{Header}
use Rattle.mapset.specs.Described.{FullTexts}
use Rattle.ask_cells.specs.declared.Cell.{Cell}
use Rattle.ask_spans.specs.declared.Shares.{Shares}
use Rattle.ask_nodes.specs.Value.{kind_of}
use Rattle.ask_nodes.specs.declared.Shape.{Shape}
use Rattle.ask_sums.specs.Mean.{spread, terms, weight}
use Rattle.ask_sums.specs.Sums.{mean, Summable}
use Rattle.ask.specs.Ask.{Question, Told, Placed, Barred, Open, number, of_kind, layout, question}
use Rattle.ask.specs.Summed.{in_told}
use Rattle.ask.specs.declared.Why.{Why}

-- what is told of questions that differ in layer, place and second only
abbrev pub Gated : (ℕ → ℤ → ℤ → ℕ → Question) → Result (Unit {0}) Why → Type 0
Gated at (Ok u) = (layer : ℕ) (lat lon : ℤ) (second : ℕ) → Open (at layer lat lon second)
Gated at (Err w) = (layer : ℕ) (lat lon : ℤ) (second : ℕ) → Barred (at layer lat lon second) (number w)

-- a question by its header and layout, whatever its texts: they are not looked at again
abbrev pub Askable : Header → Shape → Areas → ℕ → ℤ → ℤ → ℕ → Type 0
Askable h s a method lat lon second =
    (s ≡ layout h s.kind s.layer) × ((x : FullTexts) × Open (question h x a s.kind method s.layer lat lon second))

abbrev pub ValueAt : Header → Shape → Areas → ℕ → ℤ → ℤ → ℕ → Told → Type 0
ValueAt h s a method lat lon second r =
    (x : FullTexts) → Open (question h x a s.kind method s.layer lat lon second) → Placed (question h x a s.kind method s.layer lat lon second) r

-- the values of the kind that is asked for
abbrev pub asked_values : Shape → (tec rms height : List ℤ) → List ℤ
asked_values s t r h = of_kind (kind_of s.kind) t r h

-- ---- the nodes of two maps, each with its cell
-- they can be summed up, and have weight
abbrev pub Meanable : Shape → (values exponents : List ℤ) (marks : List ℕ) → Shares → (first second : Cell) → Type 0
Meanable s vs es ms h c d = Summable vs es ms s h c d × (0 < weight (terms s vs es ms (spread h c d)))

-- what they come to: their mean in its unit, or 22
abbrev pub told_mean : Shape → (values exponents : List ℤ) (marks : List ℕ) → Shares → (first second : Cell) → Told
told_mean s vs es ms h c d = in_told (kind_of s.kind) (mean (terms s vs es ms (spread h c d)))
