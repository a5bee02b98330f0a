-- Code biases, source document 004 (Ask 7).
use Rattle.std.specs.Prelude.{◌≡◌, List, [], ◌∷◌}
use Rattle.kit.specs.Answer.{All}
use Rattle.biases.specs.declared.Satellite.{Satellite}
use Rattle.biases.specs.declared.Station.{Station}

-- each kind in the file's order
pub record Biases : Type 0 where
  pub satellites : List Satellite
  pub stations : List Station

abbrev pub nothing : Biases
nothing = record { satellites = []; stations = [] }

-- one more, in front
abbrev pub one_satellite : Satellite → Biases → Biases
one_satellite s b = record { satellites = s ∷ b.satellites; stations = b.stations }

abbrev pub one_station : Station → Biases → Biases
one_station s b = record { satellites = b.satellites; stations = s ∷ b.stations }

abbrev pub SameSatellite : Satellite → Satellite → Type 0
SameSatellite x y = (x.system ≡ y.system) × (x.number ≡ y.number)

abbrev pub SameStation : Station → Station → Type 0
SameStation x y = (x.system ≡ y.system) × (x.name ≡ y.name)

-- none is the same as one of these, or as one before it
abbrev pub Apart : {A : Type 0} → (A → A → Type 0) → List A → List A → Type 0
Apart Same before [] = Unit {0}
Apart Same before (x ∷ xs) = All (λ y. ¬ Same x y) before × Apart Same (x ∷ before) xs

-- none is given twice, nor was given among g before
pub record Once (g b : Biases) : Type 0 where
  pub satellites : Apart SameSatellite g.satellites b.satellites
  pub stations : Apart SameStation g.stations b.stations
