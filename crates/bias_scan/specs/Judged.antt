-- Where the scan of a header for its biases stands, and what it comes to.
use Rattle.std.specs.Prelude.{◌≡◌, List, ℕ, ◌+◌, ◌*◌, ◌≤◌, ◌<◌, length, set, Result, Ok, Err, Option, Some, None}
use Rattle.kit.specs.Answer.{ok, refused}
use Rattle.reading.specs.declared.Why.{Why}
use Rattle.biases.specs.Biases.{Biases, nothing}
use Rattle.biases.specs.Read.{gather}
use Rattle.biases.specs.declared.Place.TheVariants.{Outside}
use Rattle.bias_scan.specs.Walk.{first, walked, onto}
use Rattle.bias_scan.specs.Marks.{marked}
use Rattle.bias_scan.specs.Turns.{from}
use Rattle.bias_scan.specs.declared.Scan.{Scan}
use Rattle.bias_scan.specs.declared.Cursor.{Cursor}
use Rattle.bias_scan.specs.declared.Counts.{Counts}

-- what was given by the rows passed
abbrev pub given : List ℕ → Scan → Biases
given t s = (walked s.rows (first t)).given

pub record Stands (t : List ℕ) (s : Scan) : Type 0 where
  pub within : s.cursor.at ≤ length t
  pub lines : s.cursor.lines ≤ s.cursor.at
  pub rows : s.rows ≤ s.cursor.at
  pub place : (walked s.rows (first t)).place ≡ s.cursor.place
  pub rest : (walked s.rows (first t)).rest ≡ from t s.cursor.at s.cursor.lines
  pub satellites : s.satellites ≡ length (given t s).satellites
  pub stations : s.stations ≡ length (given t s).stations
  pub fours : 4 * s.satellites ≤ s.cursor.at
  pub twenties : 20 * s.stations ≤ s.cursor.at
  pub marks : s.marks ≡ marked (given t s).satellites
  pub same : gather nothing Outside (first t) ≡ onto (given t s) (gather (given t s) s.cursor.place (from t s.cursor.at s.cursor.lines))

-- the scan one row on: with nothing given, a satellite of the j-th mark, a station
abbrev pub past_row : Scan → Cursor → Scan
past_row s c = record { cursor = c; rows = s.rows + 1; satellites = s.satellites; stations = s.stations; marks = s.marks }

abbrev pub past_satellite : Scan → ℕ → Cursor → Scan
past_satellite s j c = record { cursor = c; rows = s.rows + 1; satellites = s.satellites + 1; stations = s.stations; marks = set s.marks j 1 }

abbrev pub past_station : Scan → Cursor → Scan
past_station s c = record { cursor = c; rows = s.rows + 1; satellites = s.satellites; stations = s.stations + 1; marks = s.marks }

-- the header gives b, as many of both as told; their numbers and names fit a length
pub record Gives (t : List ℕ) (ns nt : ℕ) : Type 0 where
  pub biases : Biases
  pub gathers : gather nothing Outside (first t) ≡ ok biases
  pub satellites : ns ≡ length biases.satellites
  pub stations : nt ≡ length biases.stations
  pub fours : 4 * ns ≤ length t
  pub twenties : 20 * nt ≤ length t

-- refused, or the scan one row on
abbrev pub Moves : List ℕ → Scan → Result Scan Why → Type 0
Moves t s (Err w) = gather nothing Outside (first t) ≡ refused w
Moves t s (Ok s') = Stands t s' × (s.cursor.at < s'.cursor.at)

abbrev pub Passes : List ℕ → Scan → Result (Option Scan) Why → Type 0
Passes t s (Err w) = Moves t s (Err w)
Passes t s (Ok None) = Gives t s.satellites s.stations
Passes t s (Ok (Some s')) = Moves t s (Ok s')

abbrev pub Judges : List ℕ → Result Counts Why → Type 0
Judges t (Err w) = gather nothing Outside (first t) ≡ refused w
Judges t (Ok c) = Gives t c.satellites c.stations
