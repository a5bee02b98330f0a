-- What the first rows of a header give, whether or not they are at fault.
use Rattle.std.specs.Prelude.{List, [], ◌∷◌, ℕ, zero, suc}
use Rattle.kit.specs.Answer.{Answer, ok, refused, amap}
use Rattle.reading.specs.declared.Fault.{Fault}
use Rattle.reading.specs.declared.Why.{Why}
use Rattle.reading.specs.Feed.{Feed, over, bad, row, split, feed}
use Rattle.biases.specs.Biases.{Biases, nothing, one_satellite, one_station}
use Rattle.biases.specs.Read.{role, satellite_of, station_of}
use Rattle.biases.specs.declared.Satellite.{Satellite}
use Rattle.biases.specs.declared.Station.{Station}
use Rattle.biases.specs.declared.Place.{Place}
use Rattle.biases.specs.declared.Place.TheVariants.{Outside}
use Rattle.biases.specs.declared.Role.{Role}
use Rattle.biases.specs.declared.Role.TheVariants.{Last, Skipped, OfSatellite, OfStation}

-- the place, what was given, the latest first, and the rows to come
pub record Going : Type 0 where
  pub place : Place
  pub given : Biases
  pub rest : Feed

abbrev pub going : Place → Biases → Feed → Going
going p g f = record { place = p; given = g; rest = f }

unfoldable pub with_satellite : Answer Fault Satellite → Biases → Biases
with_satellite (ok s) g = one_satellite s g
with_satellite (refused w) g = g

unfoldable pub with_station : Answer Fault Station → Biases → Biases
with_station (ok s) g = one_station s g
with_station (refused w) g = g

-- one row on; at END OF HEADER, at the text's end and at a line that is refused it stays
unfoldable pub after_role : Place → Biases → ℕ → List ℕ → Feed → Role → Going
after_role p g n r f Last = going p g (row n r f)
after_role p g n r f (Skipped q) = going q g f
after_role p g n r f OfSatellite = going p (with_satellite (satellite_of r) g) f
after_role p g n r f OfStation = going p (with_station (station_of r) g) f

unfoldable pub after : Place → Biases → Feed → Going
after p g (over n) = going p g (over n)
after p g (bad w) = going p g (bad w)
after p g (row n r f) = after_role p g n r f (role p r)

unfoldable pub walked : ℕ → Feed → Going
walked zero f = going Outside nothing f
walked (suc k) f = after (walked k f).place (walked k f).given (walked k f).rest

-- the rows of a text
abbrev pub first : List ℕ → Feed
first t = feed 1 (split t)

-- ---- what was given, the latest first, before what comes

abbrev pub backwards : {A : Type 0} → List A → List A → List A
backwards [] ys = ys
backwards (x ∷ xs) ys = backwards xs (x ∷ ys)

abbrev pub joined : Biases → Biases → Biases
joined g b = record { satellites = backwards g.satellites b.satellites; stations = backwards g.stations b.stations }

abbrev pub onto : Biases → Answer Why Biases → Answer Why Biases
onto g x = amap (joined g) x
