-- Why a bias block is refused, in the request's words: the first row at fault, and on a row 6, 7, 5. No reader's state stands here.
use Rattle.std.specs.Prelude.{◌≡◌, List, ℕ, take}
use Rattle.kit.specs.Answer.{All, refused}
use Rattle.kit.specs.Range.{Natural}
use Rattle.layout.specs.Records.{Vals}
use Rattle.reading.specs.declared.Fault.{Fault}
use Rattle.reading.specs.declared.Why.{Why}
use Rattle.reading.specs.Feed.{fault, why, Feed, row}
use Rattle.reading.specs.Fields.{scan}
use Rattle.biases.specs.Biases.{Biases, one_satellite, one_station, SameSatellite, SameStation}
use Rattle.biases.specs.Rules.{of_satellite, of_station, satellite_items, station_items, Row, Letter, SatelliteRow, StationRow, Stands}
use Rattle.biases.specs.declared.Satellite.{Satellite}
use Rattle.biases.specs.declared.Station.{Station}
use Rattle.biases.specs.declared.Place.{Place}
use Rattle.biases.specs.declared.Role.TheVariants.{Skipped as skipped, OfSatellite as satellite, OfStation as station}

-- where g were given before, a satellite's row r is refused with a fault: 6 as the map reading tells it of a layout (a field's first
-- column, an X column's own), 7 for the letter at column 4, 7 for the number at column 5, 5 at column 61
pub data BadSatellite (g : Biases) (r : List ℕ) : Fault → Type 0 where
  six : {e : Fault} → scan 1 satellite_items (take 60 r) ≡ refused e → BadSatellite g r e
  letter : (v : Vals satellite_items) → Row satellite_items of_satellite v r → ((s : ℕ) → ¬ Letter s v.0) → BadSatellite g r (fault 7 4)
  number : (v : Vals satellite_items) (s : ℕ) → Row satellite_items of_satellite v r → Letter s v.0 → ¬ Natural 1 99 v.1.0 → BadSatellite g r (fault 7 5)
  twice : (s : Satellite) → SatelliteRow s r → ¬ All (λ y. ¬ SameSatellite s y) g.satellites → BadSatellite g r (fault 5 61)

pub data BadStation (g : Biases) (r : List ℕ) : Fault → Type 0 where
  six : {e : Fault} → scan 1 station_items (take 60 r) ≡ refused e → BadStation g r e
  letter : (v : Vals station_items) → Row station_items of_station v r → ((s : ℕ) → ¬ Letter s v.0) → BadStation g r (fault 7 4)
  twice : (s : Station) → StationRow s r → ¬ All (λ y. ¬ SameStation s y) g.stations → BadStation g r (fault 5 61)

-- `Faulty g p f w`: from the place p on, where g were given before, the first row at fault is refused with w, which tells its line
pub data Faulty : Biases → Place → Feed → Why → Type 0 where
  f_skipped : {g : Biases} {p : Place} (q : Place) {n : ℕ} {r : List ℕ} {f : Feed} {w : Why}
      → Stands p r (skipped q) → Faulty g q f w → Faulty g p (row n r f) w
  f_satellite : {g : Biases} {p : Place} (s : Satellite) {n : ℕ} {r : List ℕ} {f : Feed} {w : Why}
      → Stands p r satellite → SatelliteRow s r → All (λ y. ¬ SameSatellite s y) g.satellites
      → Faulty (one_satellite s g) p f w → Faulty g p (row n r f) w
  f_station : {g : Biases} {p : Place} (s : Station) {n : ℕ} {r : List ℕ} {f : Feed} {w : Why}
      → Stands p r station → StationRow s r → All (λ y. ¬ SameStation s y) g.stations
      → Faulty (one_station s g) p f w → Faulty g p (row n r f) w
  f_bad_satellite : {g : Biases} {p : Place} (e : Fault) {n : ℕ} {r : List ℕ} {f : Feed}
      → Stands p r satellite → BadSatellite g r e → Faulty g p (row n r f) (why e.number n e.column)
  f_bad_station : {g : Biases} {p : Place} (e : Fault) {n : ℕ} {r : List ℕ} {f : Feed}
      → Stands p r station → BadStation g r e → Faulty g p (row n r f) (why e.number n e.column)
