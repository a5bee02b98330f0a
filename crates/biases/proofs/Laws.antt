-- What a row of a bias block tells is the only thing it can tell.
use mathlib.Core.Path.{◌≡◌, refl, sym, ap, ◌∙◌}
use mathlib.Core.List.{List, [], ◌∷◌, ◌++◌}
use Prim.Native.Nat.{ℕ}
use native.Mathlib.Omega.{arith}
use native.Mathlib.Decide.{ℕ_discrete}
use lib.ListN.{length, get_or, take, drop, take-append-drop}
use lib.Seq.{take_at, length-take-le}
use lib.IntN.{ℤ, pos, negsuc, nat_abs}
use Rattle.kit.specs.Answer.{ok, refused, need, bind, pick, same, sames, All}
use Rattle.kit.proofs.AnswerLaws.{need_yes, need_no, pick_yes, pick_no, pick_elim, Yields, y_ok, yields, need_yields, bind_yields, pick_yields, yields_map}
use Rattle.kit.specs.Range.{Within, Natural}
use Rattle.layout.specs.Records.{Item, Vals}
use Rattle.layout.specs.Labels.{name, aux_start, aux_end, header_end}
use Rattle.reading.specs.Feed.{fault}
use Rattle.reading.specs.Fields.{scan}
use Rattle.reading.proofs.RecordLaws.{size, length_fields, scan_of, scan_yields}
use Rattle.biases.specs.Biases.{Biases, SameSatellite, SameStation}
use Rattle.biases.specs.Rules.{title, of_satellite, of_station, satellite_items, station_items, Row, row_of, Letter, its_g, no_letter, its_r, SatelliteRow, satellite_row, StationRow, station_row, Labelled, Stands, s_last, s_opens, s_another, s_past, s_ends, s_unread, s_closes, s_satellite, s_station, s_unknown}
use Rattle.biases.specs.Read.{role, system_of, satellite_meant, station_meant, satellite_of, station_of, same_satellite?, same_station?, new, new_satellite, new_station}
use Rattle.biases.specs.declared.Satellite.{Satellite}
use Rattle.biases.specs.declared.Station.{Station}
use Rattle.biases.specs.declared.Place.{Place}
use Rattle.biases.specs.declared.Role.{Role}
use Rattle.biases.specs.declared.Place.TheVariants.{Outside as outside, Inside as inside, Beside as beside}
use Rattle.biases.specs.declared.Role.TheVariants.{OfSatellite as satellite, OfStation as station}

-- ---- what a row is

-- one row has one label
pub apart : {a b : List ℕ} (r : List ℕ) → ¬ (get_or a 0 0 ≡ get_or b 0 0) → Labelled a r → ¬ Labelled b r
apart r n p q = n (ap (λ l. get_or l 0 0) (sym p ∙ q))

pub role_of : {p : Place} {r : List ℕ} {x : Role} → Stands p r x → role p r ≡ x
unfolding role name of_satellite of_station
role_of (s_last e) = pick_yes _ _ _ e
role_of (s_opens {r} e t) = pick_no _ _ _ (apart r (λ z. omega arith) e) ∙ pick_yes _ _ _ e ∙ pick_yes _ _ _ t
role_of (s_another {r} e t) = pick_no _ _ _ (apart r (λ z. omega arith) e) ∙ pick_yes _ _ _ e ∙ pick_no _ _ _ t
role_of (s_past a b) = pick_no _ _ _ a ∙ pick_no _ _ _ b
role_of (s_ends e) = pick_yes _ _ _ e
role_of (s_unread n) = pick_no _ _ _ n
role_of (s_closes e) = pick_yes _ _ _ e
role_of (s_satellite {r} e) = pick_no _ _ _ (apart r (λ z. omega arith) e) ∙ pick_yes _ _ _ e
role_of (s_station {r} e) = pick_no _ _ _ (apart r (λ z. omega arith) e) ∙ pick_no _ _ _ (apart r (λ z. omega arith) e) ∙ pick_yes _ _ _ e
role_of (s_unknown a b c) = pick_no _ _ _ a ∙ pick_no _ _ _ b ∙ pick_no _ _ _ c

pub stands_role : (p : Place) (r : List ℕ) → Stands p r (role p r)
unfolding role
stands_role outside r =
    pick_elim (Stands outside r) (same (drop 60 r) (name header_end)) s_last
    (λ a. pick_elim (Stands outside r) (same (drop 60 r) (name aux_start))
    (λ b. pick_elim (Stands outside r) (same (take 60 r) title) (s_opens b) (s_another b))
    (s_past a))
stands_role beside r = pick_elim (Stands beside r) (same (drop 60 r) (name aux_end)) s_ends s_unread
stands_role inside r =
    pick_elim (Stands inside r) (same (drop 60 r) (name aux_end)) s_closes
    (λ a. pick_elim (Stands inside r) (same (drop 60 r) of_satellite) s_satellite
    (λ b. pick_elim (Stands inside r) (same (drop 60 r) of_station) s_station (s_unknown a b)))

-- a satellite's or a station's row stands in a bias block, with its label
pub satellite_label : {p : Place} {r : List ℕ} → Stands p r satellite → Labelled of_satellite r
satellite_label (s_satellite e) = e

pub station_label : {p : Place} {r : List ℕ} → Stands p r station → Labelled of_station r
station_label (s_station e) = e

-- ---- a row by its layout

module _ (is : List Item) (n : List ℕ) (z : size is ≡ 60) where
  pub row_scan : {vs : Vals is} {r : List ℕ} → Row is n vs r → scan 1 is (take 60 r) ≡ ok vs
  row_scan (row_of {fs} h) = rw (take_at fs n 60 (length_fields h ∙ z)) (scan_of h 1)

  pub scan_row : {vs : Vals is} (r : List ℕ) → length r ≡ 80 → Labelled n r → scan 1 is (take 60 r) ≡ ok vs → Row is n vs r
  scan_row {vs} r l p e =
      let t : length (take 60 r) ≡ size is = length-take-le 60 r (omega arith) ∙ sym z in
      let x : Row is n vs (take 60 r ++ n) = row_of (yields _ (scan_yields 1 is (take 60 r) t) e) in
      let q : take 60 r ++ n ≡ r = rw (← p, take-append-drop) in
      rw q at x

-- ---- the system

pub system_made : {s : ℕ} {l : List ℕ} → Letter s l → system_of l ≡ ok s
unfolding system_of pick same sames ℕ_discrete need
system_made its_g = refl
system_made no_letter = refl
system_made its_r = refl

pub system_yields : (l : List ℕ) → Yields (λ s. Letter s l) (system_of l)
unfolding system_of
system_yields l =
    pick_yields _ (λ e. y_ok (rw e its_g)) (λ _. pick_yields _ (λ e. y_ok (rw e no_letter)) (λ _. need_yields _ _ (λ e. y_ok (rw e its_r))))

pub no_system : {l : List ℕ} → ((s : ℕ) → ¬ Letter s l) → system_of l ≡ refused (fault 7 4)
unfolding system_of
no_system {l} n =
    pick_no (same l (71 ∷ [])) _ _ (λ e. n 71 (rw e its_g)) ∙ pick_no (same l (32 ∷ [])) _ _ (λ e. n 71 (rw e no_letter)) ∙ need_no (same l (82 ∷ [])) _ _ (λ e. n 82 (rw e its_r))

-- the letter is told before the number, whatever that is
pub letter_before_number : (v : Vals satellite_items) → ((s : ℕ) → ¬ Letter s v.0) → satellite_meant v ≡ refused (fault 7 4)
unfolding satellite_meant bind
letter_before_number v n = rw (no_system n) refl

-- ---- a satellite's row and a station's

pub size_satellite : size satellite_items ≡ 60
size_satellite = refl

pub size_station : size station_items ≡ 60
size_station = refl

pub satellite_made : {s : Satellite} {r : List ℕ} → SatelliteRow s r → satellite_of r ≡ ok s
unfolding satellite_of satellite_meant bind
satellite_made (satellite_row l a w h) = rw (row_scan satellite_items of_satellite size_satellite h, system_made a) (need_yes _ _ _ w)

natural_is : (z : ℤ) → Natural 1 99 z → (k : ℕ) × (z ≡ pos k) × (nat_abs z ≡ k) × Within 1 99 k
natural_is (pos k) w = (k, refl, refl, w)
natural_is (negsuc k) w = absurd w

pub satellite_yields : (r : List ℕ) → length r ≡ 80 → Labelled of_satellite r → Yields (λ s. SatelliteRow s r) (satellite_of r)
unfolding satellite_of satellite_meant
satellite_yields r z p =
    bind_yields (scan 1 satellite_items (take 60 r)) (λ v e. bind_yields (system_of v.0) (λ s f. need_yields _ _ (λ w.
    let (k, i, j, q) = natural_is v.1.0 w in
    let h = scan_row satellite_items of_satellite size_satellite r z p e in
    let h' : Row satellite_items of_satellite (v.0, (pos k, (v.1.1.0, (v.1.1.1.0, tt)))) r = rw i at h in
    y_ok (rw j (satellite_row v.0 (yields _ (system_yields v.0) f) q h')))))

pub station_made : {s : Station} {r : List ℕ} → StationRow s r → station_of r ≡ ok s
unfolding station_of station_meant bind
station_made (station_row l a h) = rw (row_scan station_items of_station size_station h, system_made a)

pub station_yields : (r : List ℕ) → length r ≡ 80 → Labelled of_station r → Yields (λ s. StationRow s r) (station_of r)
unfolding station_of station_meant
station_yields r z p =
    bind_yields (scan 1 station_items (take 60 r)) (λ v e. bind_yields (system_of v.0) (λ s f.
    y_ok (station_row v.0 (yields _ (system_yields v.0) f) (scan_row station_items of_station size_station r z p e))))

-- ---- given for the first time

module _ {A : Type 0} {Same : A → A → Type 0} (d : (x y : A) → Dec (Same x y)) (before : List A) where
  new_made : (x : A) → All (λ y. ¬ Same x y) before → new d before x ≡ ok x
  unfolding new
  new_made x h = need_yes _ _ _ h

  pub new_yields : (x : A) → Yields (λ y. (y ≡ x) × All (λ z. ¬ Same y z) before) (new d before x)
  unfolding new
  new_yields x = need_yields _ _ (λ h. y_ok (refl, h))

module _ (g : Biases) {r : List ℕ} where
  pub new_satellite_made : {s : Satellite} → SatelliteRow s r → All (λ y. ¬ SameSatellite s y) g.satellites → new_satellite g r ≡ ok s
  unfolding new_satellite bind
  new_satellite_made {s} h n = rw (satellite_made h) (new_made same_satellite? g.satellites s n)

  pub new_station_made : {s : Station} → StationRow s r → All (λ y. ¬ SameStation s y) g.stations → new_station g r ≡ ok s
  unfolding new_station bind
  new_station_made {s} h n = rw (station_made h) (new_made same_station? g.stations s n)

module _ (g : Biases) (r : List ℕ) (z : length r ≡ 80) where
  pub new_satellite_yields : Labelled of_satellite r → Yields (λ s. SatelliteRow s r × All (λ y. ¬ SameSatellite s y) g.satellites) (new_satellite g r)
  unfolding new_satellite
  new_satellite_yields p =
      bind_yields (satellite_of r) (λ x e. yields_map (λ y h. (rw h.0 (yields _ (satellite_yields r z p) e), h.1)) (new_yields same_satellite? g.satellites x))

  pub new_station_yields : Labelled of_station r → Yields (λ s. StationRow s r × All (λ y. ¬ SameStation s y) g.stations) (new_station g r)
  unfolding new_station
  new_station_yields p =
      bind_yields (station_of r) (λ x e. yields_map (λ y h. (rw h.0 (yields _ (station_yields r z p) e), h.1)) (new_yields same_station? g.stations x))
