-- One row more, by what it is.
use mathlib.Core.Path.{◌≡◌, refl, ap, subst, ◌∙◌}
use mathlib.Core.List.{List}
use Prim.Native.Nat.{ℕ, zero, suc, ◌+◌, ◌-◌, ◌≤◌}
use native.Mathlib.Numerals.{add-one}
use native.Mathlib.Omega.{arith}
use Rattle.kit.specs.Answer.{Answer, ok, refused, All}
use Rattle.reading.specs.declared.Fault.{Fault}
use Rattle.reading.specs.Feed.{Feed, over, bad, row}
use Rattle.biases.specs.Biases.{Biases, SameStation}
use Rattle.biases.specs.Read.{role, satellite_of, station_of, on_role, gather}
use Rattle.biases.specs.declared.Satellite.{Satellite}
use Rattle.biases.specs.declared.Station.{Station}
use Rattle.biases.specs.declared.Place.{Place}
use Rattle.biases.specs.declared.Role.{Role}
use Rattle.biases.specs.declared.Role.TheVariants.{Last, Skipped, OfSatellite, OfStation}
use Rattle.bias_scan.specs.Walk.{Going, with_satellite, with_station, after_role, after, walked}
use Rattle.bias_scan.specs.Marks.{Small}
use Rattle.bias_scan.proofs.MarkLaws.{said_small}

-- ---- what was given

satellite_small : (r : List ℕ) (g : Biases) → All Small g.satellites → (x : Answer Fault Satellite) → satellite_of r ≡ x → All Small (with_satellite x g).satellites
unfolding with_satellite
satellite_small r g a (ok s) e = (said_small r s e, a)
satellite_small r g a (refused w) e = a

station_keeps : (g : Biases) → All Small g.satellites → (x : Answer Fault Station) → All Small (with_station x g).satellites
unfolding with_station
station_keeps g a (ok s) = a
station_keeps g a (refused w) = a

after_small : (p : Place) (g : Biases) (f : Feed) → All Small g.satellites → All Small (after p g f).given.satellites
unfolding after after_role
after_small p g (over n) a = a
after_small p g (bad w) a = a
after_small p g (row n r f) a = by (role p r)
  where
    by : (x : Role) → All Small (after_role p g n r f x).given.satellites
    by Last = a
    by (Skipped q) = a
    by OfSatellite = satellite_small r g a (satellite_of r) refl
    by OfStation = station_keeps g a (station_of r)

pub given_small : (k : ℕ) (f : Feed) → All Small (walked k f).given.satellites
unfolding walked
given_small zero f = tt
given_small (suc k) f = after_small (walked k f).place (walked k f).given (walked k f).rest (given_small k f)

-- ---- a row that is known

module _ (p : Place) (g : Biases) (n : ℕ) (r : List ℕ) (f : Feed) where
  pub row_after : (x : Role) → role p r ≡ x → after p g (row n r f) ≡ after_role p g n r f x
  unfolding after
  row_after x e = rw e

  pub row_gather : (x : Role) → role p r ≡ x → gather g p (row n r f) ≡ on_role g p n r (λ h q. gather h q f) x
  unfolding gather
  row_gather x e = rw e

-- one row more, from where k rows lead
pub walked_on : (k : ℕ) (f : Feed) (p : Place) (rest : Feed) → (walked k f).place ≡ p → (walked k f).rest ≡ rest → walked (k + 1) f ≡ after p (walked k f).given rest
unfolding walked
walked_on k f p rest a b = ap (λ (j : ℕ). walked j f) (add-one k) ∙ rw (a, b) refl

-- ---- where a row leaves what it found

stays : (k : ℕ) (f : Feed) → after (walked k f).place (walked k f).given (walked k f).rest ≡ walked k f → (j : ℕ) → walked (j + k) f ≡ walked k f
unfolding walked
stays k f e zero = let z : zero + k ≡ k = omega arith in ap (λ (i : ℕ). walked i f) z
stays k f e (suc j) =
    let ih = stays k f e j in
    let z : suc j + k ≡ suc (j + k) = omega arith in
    ap (λ (i : ℕ). walked i f) z ∙ ap (λ (s : Going). after s.place s.given s.rest) ih ∙ e

pub stuck : (k : ℕ) (f : Feed) → after (walked k f).place (walked k f).given (walked k f).rest ≡ walked k f → (m : ℕ) → k ≤ m → walked m f ≡ walked k f
stuck k f e m h = let z : m ≡ (m - k) + k = omega arith in ap (λ (i : ℕ). walked i f) z ∙ stays k f e (m - k)

-- ---- stations stay given

module _ (x : Station) where
  abbrev pub Unheard : Biases → Type 0
  Unheard g = All (λ y. ¬ SameStation x y) g.stations

  station_more : (g : Biases) (a : Answer Fault Station) → Unheard (with_station a g) → Unheard g
  unfolding with_station
  station_more g (ok s) h = h.1
  station_more g (refused w) h = h

  satellite_more : (g : Biases) (a : Answer Fault Satellite) → Unheard (with_satellite a g) → Unheard g
  unfolding with_satellite
  satellite_more g (ok s) h = h
  satellite_more g (refused w) h = h

  after_more : (p : Place) (g : Biases) (f : Feed) → Unheard (after p g f).given → Unheard g
  unfolding after after_role
  after_more p g (over n) h = h
  after_more p g (bad w) h = h
  after_more p g (row n r f) h = by (role p r) h
    where
      by : (z : Role) → Unheard (after_role p g n r f z).given → Unheard g
      by Last u = u
      by (Skipped q) u = u
      by OfSatellite u = satellite_more g (satellite_of r) u
      by OfStation u = station_more g (station_of r) u

  more_rows : (k : ℕ) (f : Feed) (j : ℕ) → Unheard (walked (j + k) f).given → Unheard (walked k f).given
  unfolding walked
  more_rows k f zero h = let z : zero + k ≡ k = omega arith in subst (λ (i : ℕ). Unheard (walked i f).given) z h
  more_rows k f (suc j) h =
      let z : suc j + k ≡ suc (j + k) = omega arith in
      let u : Unheard (walked (suc (j + k)) f).given = subst (λ (i : ℕ). Unheard (walked i f).given) z h in
      more_rows k f j (after_more (walked (j + k) f).place (walked (j + k) f).given (walked (j + k) f).rest u)

  -- none of m rows gave it, so none of fewer
  pub fewer_rows : (k : ℕ) (f : Feed) (m : ℕ) → k ≤ m → Unheard (walked m f).given → Unheard (walked k f).given
  fewer_rows k f m h u = let z : m ≡ (m - k) + k = omega arith in more_rows k f (m - k) (subst (λ (i : ℕ). Unheard (walked i f).given) z u)
