-- When six lists, with a header and its texts, are a map set that some text can have: else 31. Only what is needed of each list counts.
use Rattle.std.specs.Prelude.{◌≡◌, ◌⊎◌, List, [], ◌∷◌, ℕ, ◌*◌, take, drop, ℤ, pos, negsuc}
use Rattle.kit.specs.Answer.{All}
use Rattle.mapset.specs.declared.Kind.{Kind}
use Rattle.mapset.specs.declared.Kind.TheVariants.{Tec, Rms, Height}
use Rattle.mapset.specs.declared.Header.{Header}
use Rattle.mapset.specs.Described.{FullTexts}
use Rattle.mapset.specs.Grid.{columns}
use Rattle.mapset.specs.Areas.{Areas, Present, blocks, values, value_need, Sound}
use Rattle.layout.specs.Layout.{Exponent, per_map}
use Rattle.areas.specs.Value.{Value}
use Rattle.areas.specs.Nest.{third}

-- the lists up to each need
unfoldable pub needed : Header → Areas → Areas
needed h a =
    record {
      tec = take (values h) a.tec;
      rms = take (value_need Rms h (take h.times.maps a.marks)) a.rms;
      height = take (value_need Height h (take h.times.maps a.marks)) a.height;
      exponents = take (3 * blocks h) a.exponents;
      epochs = take h.times.maps a.epochs;
      marks = take h.times.maps a.marks;
    }

abbrev pub values_in : Kind → Areas → List ℤ
values_in Tec a = a.tec
values_in Rms a = a.rms
values_in Height a = a.height

-- of maps of w elements each, those that their marks say are absent hold v everywhere
abbrev pub Blank : {X : Type 0} → Kind → ℕ → X → (marks : List ℕ) → List X → Type 0
Blank k w v [] l = Unit {0}
Blank k w v (m ∷ ms) l = (Present k m ⊎ All (λ x. x ≡ v) (take w l)) × Blank k w v ms (drop w l)

pub record Valid (h : Header) (t : FullTexts) (a : Areas) : Type 0 where
  pub sound : Sound h t a
  pub values : (k : Kind) → All Value (values_in k (needed h a))
  pub exponents : All Exponent (needed h a).exponents
  -- an absent map is 9999 everywhere (where its kind has no map, nothing is needed) with exponent -1
  pub no_values : (k : Kind) → Blank k (per_map h * columns h.grid) (pos 9999) (needed h a).marks (values_in k (needed h a))
  pub no_exponents : (k : Kind) → Blank k (per_map h) (negsuc 0) (needed h a).marks (third k (blocks h) (needed h a).exponents)
