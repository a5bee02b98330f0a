-- Biases as they stand in three lent areas: numbers of the satellites, numbers of the stations, and the stations' names.
use Rattle.std.specs.Prelude.{List, [], ◌∷◌, ◌++◌, ℕ, ℤ, pos}
use Rattle.kit.specs.Lists.{front}
use Rattle.biases.specs.Biases.{Biases}
use Rattle.biases.specs.declared.Satellite.{Satellite}
use Rattle.biases.specs.declared.Station.{Station}

pub record Lent : Type 0 where
  pub satellites : List ℤ
  pub stations : List ℤ
  pub names : List ℕ

abbrev pub lent : List ℤ → List ℤ → List ℕ → Lent
lent a b c = record { satellites = a; stations = b; names = c }

-- system, number, bias, RMS of a satellite; system, bias, RMS of a station
abbrev pub four : Satellite → List ℤ
four s = pos s.system ∷ pos s.number ∷ s.bias ∷ s.rms ∷ []

abbrev pub three : Station → List ℤ
three s = pos s.system ∷ s.bias ∷ s.rms ∷ []

abbrev pub of_satellites : List Satellite → List ℤ
of_satellites [] = []
of_satellites (s ∷ ss) = four s ++ of_satellites ss

abbrev pub of_stations : List Station → List ℤ
of_stations [] = []
of_stations (s ∷ ss) = three s ++ of_stations ss

abbrev pub names_of : List Station → List ℕ
names_of [] = []
names_of (s ∷ ss) = s.name ++ names_of ss

abbrev pub flat : Biases → Lent
flat b = lent (of_satellites b.satellites) (of_stations b.stations) (names_of b.stations)

-- in front of each area, and behind them what was there
abbrev pub in_front : Lent → Lent → Lent
in_front a l = lent (front a.satellites l.satellites) (front a.stations l.stations) (front a.names l.names)
