-- What the first scan says of a text.
use Rattle.std.specs.Prelude.{◌≡◌, List, [], ℕ, ◌≤◌, length, drop, ℤ, Result, Ok, Err}
use Rattle.kit.specs.Answer.{ok, refused}
use Rattle.mapset.specs.declared.Header.{Header}
use Rattle.mapset.specs.Described.{FullTexts, full}
use Rattle.mapset.specs.MapSet.{Maps, MapSet}
use Rattle.reading.specs.declared.Why.{Why}
use Rattle.reading.specs.Feed.{split, feed}
use Rattle.reading.specs.Maps.{run}
use Rattle.reading.specs.Read.{read}
use Rattle.reading.specs.declared.Place.TheVariants.{Between}
use Rattle.maps.specs.Turns.{stands}
use Rattle.read_needs.specs.declared.Others.{Others}
use Rattle.read_judge.specs.declared.FirstScan.{FirstScan}
use Rattle.layout.specs.Layout.{begins}

abbrev pub set_of : Header → FullTexts → Maps → MapSet
set_of h x m = record { header = h; texts = x; maps = m }

-- the text t is read: with e in force its maps stand from `at` on, and o tells whether some RMS and some height map stands
pub record Accepts (t : List ℕ) (x : FullTexts) (h : Header) (e : ℤ) (at : ℕ) (o : Others) : Type 0 where
  pub maps : Maps
  pub reads : read t ≡ ok (set_of h x maps)
  pub within : at ≤ length t
  pub line : ℕ
  pub behind : run h Between (begins e) 0 (feed line (split (drop at t))) ≡ ok ([], maps)
  pub rms : o.rms ≡ stands maps.rms
  pub height : o.height ≡ stands maps.height

-- a text that is accepted, with the bytes of its DESCRIPTION lines; or why it is refused
abbrev pub Judges : List ℕ → Result FirstScan Why → List ℕ → Type 0
Judges t (Ok f) bs = Accepts t (full f.texts bs) f.header f.exponent f.at f.some
Judges t (Err w) bs = read t ≡ refused w
