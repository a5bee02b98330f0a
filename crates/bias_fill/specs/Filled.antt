-- What the rows of a header give, whether or not they are at fault, and the scan that stores it.
use Rattle.std.specs.Prelude.{◌≡◌, List, [], ℕ, ◌+◌, ◌*◌, ◌≤◌, ◌<◌, length, ℤ, Option, Some, None}
use Rattle.std.proofs.lemmas.List.Edits.{sets}
use Rattle.kit.specs.Answer.{Answer, ok, refused}
use Rattle.layout.specs.Text.{pad}
use Rattle.reading.specs.declared.Fault.{Fault}
use Rattle.reading.specs.Feed.{Feed, over as ends, bad, row}
use Rattle.biases.specs.Biases.{Biases, nothing}
use Rattle.biases.specs.Read.{role, satellite_of, station_of}
use Rattle.biases.specs.declared.Satellite.{Satellite}
use Rattle.biases.specs.declared.Station.{Station}
use Rattle.biases.specs.declared.Place.{Place}
use Rattle.biases.specs.declared.Place.TheVariants.{Outside}
use Rattle.biases.specs.declared.Role.{Role}
use Rattle.biases.specs.declared.Role.TheVariants.{Last, Skipped, OfSatellite, OfStation}
use Rattle.bias_scan.specs.Walk.{with_satellite, with_station, first}
use Rattle.bias_scan.specs.Turns.{from, cursor}
use Rattle.bias_fill.specs.Flat.{Lent, lent, four, three, of_satellites, of_stations, names_of}
use Rattle.bias_fill.specs.declared.Fill.{Fill}

-- ---- what rows give

-- by what a row is, where `next` tells what follows it
unfoldable pub told_role : Place → List ℕ → (Place → Biases) → Role → Biases
told_role p r next Last = nothing
told_role p r next (Skipped q) = next q
told_role p r next OfSatellite = with_satellite (satellite_of r) (next p)
told_role p r next OfStation = with_station (station_of r) (next p)

unfoldable pub told : Place → Feed → Biases
told p (ends n) = nothing
told p (bad w) = nothing
told p (row n r f) = told_role p r (λ q. told q f) (role p r)

-- a record that is well-formed, as it stands in the areas
abbrev pub one : {A : Type 0} → Answer Fault A → ℕ
one (ok s) = 1
one (refused w) = 0

abbrev pub fours : Answer Fault Satellite → List ℤ
fours (ok s) = four s
fours (refused w) = []

abbrev pub threes : Answer Fault Station → List ℤ
threes (ok s) = three s
threes (refused w) = []

abbrev pub named : Answer Fault Station → List ℕ
named (ok s) = s.name
named (refused w) = []

-- ---- the record of a line, stored behind k others of its kind

-- there is room for it
abbrev pub SatelliteFits : (line : List ℕ) (k : ℕ) (satellites : List ℤ) → Type 0
SatelliteFits line k l = (length line ≤ 80) × (4 * k + length (fours (satellite_of (pad line))) ≤ length l)

abbrev pub StationFits : (line : List ℕ) (k : ℕ) (stations : List ℤ) (names : List ℕ) → Type 0
StationFits line k l ns =
    (length line ≤ 80) × (3 * k + length (threes (station_of (pad line))) ≤ length l) × (20 * k + length (named (station_of (pad line))) ≤ length ns)

-- the area l, with the stations' names ns, has become l' and ns'; r are then stored
abbrev pub SatelliteStored : (line : List ℕ) (k : ℕ) (l : List ℤ) (r : ℕ) (l' : List ℤ) → Type 0
SatelliteStored line k l r l' = (r ≡ k + one (satellite_of (pad line))) × (l' ≡ sets l (4 * k) (fours (satellite_of (pad line))))

abbrev pub StationStored : (line : List ℕ) (k : ℕ) (l : List ℤ) (ns : List ℕ) (r : ℕ) (l' : List ℤ) (ns' : List ℕ) → Type 0
StationStored line k l ns r l' ns' =
    (r ≡ k + one (station_of (pad line)))
    × (length (named (station_of (pad line))) ≡ 20 * one (station_of (pad line)))
    × (l' ≡ sets l (3 * k) (threes (station_of (pad line))))
    × (ns' ≡ sets ns (20 * k) (named (station_of (pad line))))

-- ---- stored behind what is stored already

abbrev pub stored : Biases → ℕ → ℕ → Lent → Lent
stored b ns nt l =
    lent (sets l.satellites (4 * ns) (of_satellites b.satellites))
    (sets l.stations (3 * nt) (of_stations b.stations))
    (sets l.names (20 * nt) (names_of b.stations))

abbrev pub filled : List ℕ → Lent → Lent
filled t l = stored (told Outside (first t)) 0 0 l

pub record Fits (b : Biases) (ns nt : ℕ) (l : Lent) : Type 0 where
  pub satellites : 4 * ns + length (of_satellites b.satellites) ≤ length l.satellites
  pub stations : 3 * nt + length (of_stations b.stations) ≤ length l.stations
  pub names : 20 * nt + length (names_of b.stations) ≤ length l.names

abbrev pub Enough : List ℕ → Lent → Type 0
Enough t l = Fits (told Outside (first t)) 0 0 l

-- ---- where the scan stands

abbrev pub past : Place → ℕ → ℕ → ℕ → ℕ → Fill
past p next n ns nt = record { cursor = cursor p next n; satellites = ns; stations = nt }

-- what the rows to come give
abbrev pub rest : List ℕ → Fill → Biases
rest t f = told f.cursor.place (from t f.cursor.at f.cursor.lines)

pub record BiasRoom (t : List ℕ) (f : Fill) (l : Lent) : Type 0 where
  pub within : f.cursor.at ≤ length t
  pub lines : f.cursor.lines ≤ f.cursor.at
  pub fits : Fits (rest t f) f.satellites f.stations l

-- one row more: over, with all stored; or on, with as much to come
abbrev pub Fills : List ℕ → Fill → Lent → Option Fill → Lent → Type 0
Fills t f l None l' = l' ≡ stored (rest t f) f.satellites f.stations l
Fills t f l (Some f') l' = BiasRoom t f' l' × (stored (rest t f') f'.satellites f'.stations l' ≡ stored (rest t f) f.satellites f.stations l) × (f.cursor.at < f'.cursor.at)

-- of the areas l₀ at the start, on the way there
abbrev pub Stays : List ℕ → Lent → Fill → Lent → Type 0
Stays t l₀ f l = BiasRoom t f l × (stored (rest t f) f.satellites f.stations l ≡ filled t l₀)
