-- The reading of a text from its start, by what the code hands back of the header.
use Rattle.std.specs.Prelude.{◌≡◌, List, [], ℕ, suc, ◌≤◌, ◌<◌, length, drop, Result, Ok, Err, Some, None, Option as Held}
use Rattle.kit.specs.Answer.{Answer, refused, amap}
use Rattle.kit.specs.Range.{Within}
use Rattle.mapset.specs.declared.Version.{Version}
use Rattle.mapset.specs.declared.Header.{Header}
use Rattle.mapset.specs.Described.{full}
use Rattle.mapset.specs.Lines.{lines_in}
use Rattle.mapset.specs.Grid.{heights, latitudes, longitudes, AxisRules, Limits}
use Rattle.mapset.specs.Header.{Dimension}
use Rattle.mapset.specs.MapSet.{MapSet}
use Rattle.layout.specs.Layout.{mode}
use Rattle.reading.specs.declared.Why.{Why}
use Rattle.reading.specs.Feed.{split, feed}
use Rattle.reading.specs.Maps.{run}
use Rattle.reading.specs.Head.{heading, Got}
use Rattle.reading.specs.declared.Place.TheVariants.{Between}
use Rattle.head_state.specs.Got.{slots_of, texts_of}
use Rattle.head_state.specs.declared.State.{State}
use Rattle.head_step.specs.Step.{Holds}
use Rattle.head.specs.declared.HeaderRead.{HeaderRead}
use Rattle.head.specs.declared.Passed.{Passed}

-- ---- an accepted header

pub record HeaderFits (h : Header) : Type 0 where
  pub heights : AxisRules heights h.grid.heights
  pub latitudes : AxisRules latitudes h.grid.latitudes
  pub longitudes : AxisRules longitudes h.grid.longitudes
  pub maps : Within 1 300 h.times.maps
  pub dimension : Dimension h.model.dimension h.grid.heights
  pub limits : Limits h.times.maps h.grid

-- where the maps start: the place is in the text, and no more lines were passed than bytes
pub record MapsStart (t : List ℕ) (h : Header) (at n : ℕ) : Type 0 where
  pub header : HeaderFits h
  pub within : at ≤ length t
  pub passed : n ≤ at

abbrev pub Sound : List ℕ → Result HeaderRead Why → Type 0
Sound t (Err w) = Unit {0}
Sound t (Ok r) = MapsStart t r.header r.at r.passed

-- what is read of the text t, with the bytes of the DESCRIPTION lines: the refusal; or the header, and what the maps behind it make
unfoldable pub opened : Result HeaderRead Why → List ℕ → List ℕ → Answer Why MapSet
opened (Err w) bs t = refused w
opened (Ok r) bs t =
    amap (λ w. record { header = r.header; texts = full r.texts bs; maps = w.1 })
    (run r.header Between (record { exponent = r.exponent; epochs = []; rms = 0; height = 0 }) 0 (feed (suc r.passed) (split (drop r.at t))))

-- ---- a row of the header

-- what is read from a state of the header on, with the bytes bs of its DESCRIPTION lines, under the version record c
abbrev pub from_state : Version → State → List ℕ → List ℕ → ℕ → ℕ → Answer Why MapSet
from_state c s bs t at n = heading c (mode s.aux) s.exponent (slots_of s) (lines_in s.descriptions bs) (feed (suc n) (split (drop at t)))

-- what was got so far is accepted, and the bytes hold the lines
pub record Keeps (s : State) (bs : List ℕ) : Type 0 where
  pub holds : Holds s.descriptions bs
  pub got : Got (slots_of s) (lines_in s.descriptions bs)

pub record Goes (t : List ℕ) (c : Version) (s : State) (bs : List ℕ) (at n : ℕ) (s' : State) (bs' : List ℕ) (at' n' : ℕ) : Type 0 where
  pub same : from_state c s bs t at n ≡ from_state c s' bs' t at' n'
  pub ahead : at < at'
  pub within : at' ≤ length t
  pub passed : n' ≤ at'
  pub keeps : Keeps s' bs'

pub record Stops (t : List ℕ) (c : Version) (s : State) (bs : List ℕ) (at n : ℕ) (bs' : List ℕ) (a : Result HeaderRead Why) : Type 0 where
  pub same : from_state c s bs t at n ≡ opened a bs' t
  pub sound : Sound t a

-- what is handed back at END OF HEADER, which leaves the state s'
abbrev pub handed : State → Header → State → ℕ → ℕ → HeaderRead
handed s h s' at n = record { header = h; texts = texts_of s'; exponent = s.exponent; at = at; passed = n }

-- on from where the record leads, or stopped by END OF HEADER
abbrev pub Leads : List ℕ → Version → State → List ℕ → ℕ → ℕ → ℕ → ℕ → Held Header → State → List ℕ → Type 0
Leads t c s bs at n at' n' None s' bs' = Goes t c s bs at n s' bs' at' n'
Leads t c s bs at n at' n' (Some h) s' bs' = Stops t c s bs at n bs' (Ok (handed s h s' at' n'))

abbrev pub Passes : List ℕ → Version → State → List ℕ → ℕ → ℕ → Result Passed Why → State → List ℕ → Type 0
Passes t c s bs at n (Ok p) s' bs' = Leads t c s bs at n p.next p.lines p.header s' bs'
Passes t c s bs at n (Err w) s' bs' = Stops t c s bs at n bs' (Err w)

-- ---- what is handed back

-- what f stands for is what is read of the text t, by r and the bytes bs of the DESCRIPTION lines
pub record ReadsHeader (f : Answer Why MapSet) (t : List ℕ) (r : Result HeaderRead Why) (bs : List ℕ) : Type 0 where
  pub same : f ≡ opened r bs t
  pub sound : Sound t r
