-- The rules that make the rows of bias blocks from biases. No reader stands here.
use Rattle.std.specs.Prelude.{◌≡◌, List, [], ◌∷◌, ◌++◌, ℕ, take, drop, ℤ, pos}
use Rattle.kit.specs.Range.{Within}
use Rattle.mapset.specs.MapSet.{MapSet}
use Rattle.layout.specs.Text.{Ended, Laid}
use Rattle.layout.specs.Records.{Item, I, D, X, A, Vals, Fields}
use Rattle.layout.specs.Labels.{bytes, name, aux_start, aux_end, header_end}
use Rattle.layout.specs.Layout.{Rows}
use Rattle.biases.specs.Biases.{Biases, nothing, one_satellite, one_station, Once}
use Rattle.biases.specs.declared.Satellite.{Satellite}
use Rattle.biases.specs.declared.Station.{Station}
use Rattle.biases.specs.declared.Place.{Place}
use Rattle.biases.specs.declared.Role.{Role}
use Rattle.biases.specs.declared.Place.TheVariants.{Outside as outside, Inside as inside, Beside as beside}
use Rattle.biases.specs.declared.Role.TheVariants.{Last as last, Skipped as skipped, OfSatellite as satellite, OfStation as station}

-- columns 1 to 60 of the START OF AUX DATA that opens a bias block
unfoldable pub title : List ℕ
title = bytes "DIFFERENTIAL CODE BIASES                                    "

-- columns 61 to 80
unfoldable pub of_satellite : List ℕ
of_satellite = bytes "PRN / BIAS / RMS    "

unfoldable pub of_station : List ℕ
of_station = bytes "STATION / BIAS / RMS"

-- 3X,A1,I2.2,2F10.3 and 3X,A1,2X,A20,2F10.3; the columns behind are blank
abbrev pub satellite_items : List Item
satellite_items = X 3 ∷ A 1 ∷ I 2 ∷ D 10 ∷ D 10 ∷ X 34 ∷ []

abbrev pub station_items : List Item
station_items = X 3 ∷ A 1 ∷ X 2 ∷ A 20 ∷ D 10 ∷ D 10 ∷ X 14 ∷ []

-- `Row is n vs r`: the row r holds the values vs by the layout is, and n in columns 61 to 80
pub data Row (is : List Item) (n : List ℕ) (vs : Vals is) : List ℕ → Type 0 where
  row_of : {fs : List ℕ} → Fields is vs fs → Row is n vs (fs ++ n)

-- `Letter s l`: the column l shows the system s; a blank means G
pub data Letter : ℕ → List ℕ → Type 0 where
  its_g : Letter 71 (71 ∷ [])
  no_letter : Letter 71 (32 ∷ [])
  its_r : Letter 82 (82 ∷ [])

pub data SatelliteRow : Satellite → List ℕ → Type 0 where
  satellite_row : {s k : ℕ} {b e : ℤ} (l : List ℕ) {r : List ℕ} → Letter s l → Within 1 99 k
      → Row satellite_items of_satellite (l, (pos k, (b, (e, tt)))) r → SatelliteRow (record { system = s; number = k; bias = b; rms = e }) r

pub data StationRow : Station → List ℕ → Type 0 where
  station_row : {s : ℕ} {n : List ℕ} {b e : ℤ} (l : List ℕ) {r : List ℕ} → Letter s l
      → Row station_items of_station (l, (n, (b, (e, tt)))) r → StationRow (record { system = s; name = n; bias = b; rms = e }) r

abbrev pub Labelled : List ℕ → List ℕ → Type 0
Labelled n r = drop 60 r ≡ n

-- `Stands p r x`: at the place p the row r is x
pub data Stands : Place → List ℕ → Role → Type 0 where
  s_last : {r : List ℕ} → Labelled (name header_end) r → Stands outside r last
  s_opens : {r : List ℕ} → Labelled (name aux_start) r → take 60 r ≡ title → Stands outside r (skipped inside)
  s_another : {r : List ℕ} → Labelled (name aux_start) r → ¬ (take 60 r ≡ title) → Stands outside r (skipped beside)
  s_past : {r : List ℕ} → ¬ Labelled (name header_end) r → ¬ Labelled (name aux_start) r → Stands outside r (skipped outside)
  s_ends : {r : List ℕ} → Labelled (name aux_end) r → Stands beside r (skipped outside)
  s_unread : {r : List ℕ} → ¬ Labelled (name aux_end) r → Stands beside r (skipped beside)
  s_closes : {r : List ℕ} → Labelled (name aux_end) r → Stands inside r (skipped outside)
  s_satellite : {r : List ℕ} → Labelled of_satellite r → Stands inside r satellite
  s_station : {r : List ℕ} → Labelled of_station r → Stands inside r station
  -- unknown records are skipped
  s_unknown : {r : List ℕ} → ¬ Labelled (name aux_end) r → ¬ Labelled of_satellite r → ¬ Labelled of_station r → Stands inside r (skipped inside)

-- `Tells p b rs`: the rows rs, from the place p on, tell the biases b; what follows END OF HEADER tells none
pub data Tells : Place → Biases → List (List ℕ) → Type 0 where
  t_last : {p : Place} {r : List ℕ} {rs : List (List ℕ)} → Stands p r last → Tells p nothing (r ∷ rs)
  t_skipped : {p : Place} (q : Place) {b : Biases} {r : List ℕ} {rs : List (List ℕ)} → Stands p r (skipped q) → Tells q b rs → Tells p b (r ∷ rs)
  t_satellite : {p : Place} {s : Satellite} {b : Biases} {r : List ℕ} {rs : List (List ℕ)}
      → Stands p r satellite → SatelliteRow s r → Tells p b rs → Tells p (one_satellite s b) (r ∷ rs)
  t_station : {p : Place} {s : Station} {b : Biases} {r : List ℕ} {rs : List (List ℕ)}
      → Stands p r station → StationRow s r → Tells p b rs → Tells p (one_station s b) (r ∷ rs)

-- `Makes m b t`: the map set m and the biases b make the text t
pub data Makes (m : MapSet) (b : Biases) : List ℕ → Type 0 where
  makes : {rs ls : List (List ℕ)} {t : List ℕ} → Rows m rs → Tells outside b rs → Once nothing b → Laid rs ls → Ended ls t → Makes m b t
