-- The bias reading: the map reading's refusals, then on each row of a bias block 6, 7, 5 (Ask 7).
use Rattle.std.specs.Prelude.{List, [], ◌∷◌, ℕ, take, drop, nat_abs}
use Rattle.std.proofs.Math.Decide.{ℕ_discrete}
use Rattle.kit.specs.Answer.{Answer, ok, refused, need, bind, amap, pick, same, all_dec, ×_dec, ¬_dec}
use Rattle.kit.specs.Range.{natural?}
use Rattle.layout.specs.Records.{Vals}
use Rattle.layout.specs.Labels.{name, aux_start, aux_end, header_end}
use Rattle.reading.specs.declared.Fault.{Fault}
use Rattle.reading.specs.declared.Why.{Why}
use Rattle.reading.specs.Feed.{fault, on_line, Feed, over, bad, row, split, feed}
use Rattle.reading.specs.Fields.{scan}
use Rattle.reading.specs.Maps.{short}
use Rattle.reading.specs.Read.{read}
use Rattle.biases.specs.Biases.{Biases, nothing, one_satellite, one_station, SameSatellite, SameStation}
use Rattle.biases.specs.Rules.{title, of_satellite, of_station, satellite_items, station_items}
use Rattle.biases.specs.declared.Satellite.{Satellite}
use Rattle.biases.specs.declared.Station.{Station}
use Rattle.biases.specs.declared.Place.{Place}
use Rattle.biases.specs.declared.Role.{Role}
use Rattle.biases.specs.declared.Place.TheVariants.{Outside as outside, Inside as inside, Beside as beside}
use Rattle.biases.specs.declared.Role.TheVariants.{Last as last, Skipped as skipped, OfSatellite as satellite, OfStation as station}

-- what a row is
unfoldable pub role : Place → List ℕ → Role
role outside r =
    pick (same (drop 60 r) (name header_end)) last
    (pick (same (drop 60 r) (name aux_start)) (pick (same (take 60 r) title) (skipped inside) (skipped beside)) (skipped outside))
role beside r = pick (same (drop 60 r) (name aux_end)) (skipped outside) (skipped beside)
role inside r =
    pick (same (drop 60 r) (name aux_end)) (skipped outside)
    (pick (same (drop 60 r) of_satellite) satellite (pick (same (drop 60 r) of_station) station (skipped inside)))

-- G, blank for G, or R; 7 at column 4
unfoldable pub system_of : List ℕ → Answer Fault ℕ
system_of l = pick (same l (71 ∷ [])) (ok 71) (pick (same l (32 ∷ [])) (ok 71) (need (same l (82 ∷ [])) (fault 7 4) (ok 82)))

-- what a satellite's values mean: 7 for the letter, then 7 at column 5 for the number
unfoldable pub satellite_meant : Vals satellite_items → Answer Fault Satellite
satellite_meant v =
    bind (system_of v.0)
    (λ s. need (natural? 1 99 v.1.0) (fault 7 5)
    (ok (record { system = s; number = nat_abs v.1.0; bias = v.1.1.0; rms = v.1.1.1.0 })))

unfoldable pub station_meant : Vals station_items → Answer Fault Station
station_meant v = bind (system_of v.0) (λ s. ok (record { system = s; name = v.1.0; bias = v.1.1.0; rms = v.1.1.1.0 }))

-- 6 before that
unfoldable pub satellite_of : List ℕ → Answer Fault Satellite
satellite_of r = bind (scan 1 satellite_items (take 60 r)) satellite_meant

unfoldable pub station_of : List ℕ → Answer Fault Station
station_of r = bind (scan 1 station_items (take 60 r)) station_meant

unfoldable pub same_satellite? : (x y : Satellite) → Dec (SameSatellite x y)
same_satellite? x y = ×_dec (ℕ_discrete x.system y.system) (ℕ_discrete x.number y.number)

unfoldable pub same_station? : (x y : Station) → Dec (SameStation x y)
same_station? x y = ×_dec (ℕ_discrete x.system y.system) (same x.name y.name)

-- 5 at column 61 for one that was given before
unfoldable pub new : {A : Type 0} {Same : A → A → Type 0} → ((x y : A) → Dec (Same x y)) → List A → A → Answer Fault A
new d before x = need (all_dec (λ y. ¬_dec (d x y)) before) (fault 5 61) (ok x)

unfoldable pub new_satellite : Biases → List ℕ → Answer Fault Satellite
new_satellite g r = bind (satellite_of r) (new same_satellite? g.satellites)

unfoldable pub new_station : Biases → List ℕ → Answer Fault Station
new_station g r = bind (station_of r) (new same_station? g.stations)

-- what a row does at a place, where g were given before, the latest first, and `next` reads on
unfoldable pub on_role : Biases → Place → ℕ → List ℕ → (Biases → Place → Answer Why Biases) → Role → Answer Why Biases
on_role g p n r next last = ok nothing
on_role g p n r next (skipped q) = next g q
on_role g p n r next satellite = bind (on_line n (new_satellite g r)) (λ s. amap (one_satellite s) (next (one_satellite s g) p))
on_role g p n r next station = bind (on_line n (new_station g r)) (λ s. amap (one_station s) (next (one_station s g) p))

-- the biases that the rows tell from a place on
unfoldable pub gather : Biases → Place → Feed → Answer Why Biases
gather g p (over n) = short n
gather g p (bad w) = refused w
gather g p (row n r f) = on_role g p n r (λ h q. gather h q f) (role p r)

-- the map reading's refusals come first
unfoldable pub biases : List ℕ → Answer Why Biases
biases t = bind (read t) (λ m. gather nothing outside (feed 1 (split t)))
