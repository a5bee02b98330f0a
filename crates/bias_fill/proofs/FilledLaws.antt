-- One row stored; and what is gathered is what is stored.
use mathlib.Core.Path.{◌≡◌, refl, sym, ap, ◌∙◌}
use Rattle.std.specs.Prelude.{Some}
use borrow.Rule.Slice.PartMut.{put_mid}
use mathlib.Core.List.{List, append_assoc}
use Prim.Native.Nat.{ℕ, ◌+◌, ◌-◌, ◌*◌, ◌≤◌}
use native.Mathlib.Omega.{arith}
use lib.ListN.{length, length-append}
use lib.IntN.{ℤ}
use lib.Seq.{sets, sets-eq, length-sets, drop-drop}
use Rattle.kit.specs.Answer.{Answer, ok, refused}
use Rattle.kit.proofs.AnswerLaws.{Yields, y_ok, y_no, yields, bind_yields, amap_yields, yields_map}
use Rattle.reading.specs.declared.Fault.{Fault}
use Rattle.reading.specs.declared.Why.{Why}
use Rattle.reading.specs.Feed.{on_line, Feed, over as ends, bad, row, NoRow}
use Rattle.reading.specs.Maps.{short}
use Rattle.biases.specs.Biases.{Biases, nothing, one_satellite, one_station}
use Rattle.biases.specs.Read.{role, satellite_of, station_of, same_satellite?, same_station?, new_satellite, new_station, on_role, gather}
use Rattle.biases.proofs.Laws.{new_yields}
use Rattle.reading.proofs.MapLaws.{on_line_yields}
use Rattle.biases.specs.declared.Satellite.{Satellite}
use Rattle.biases.specs.declared.Station.{Station}
use Rattle.biases.specs.declared.Place.{Place}
use Rattle.biases.specs.declared.Place.TheVariants.{Outside}
use Rattle.biases.specs.declared.Role.{Role}
use Rattle.biases.specs.declared.Role.TheVariants.{Last, Skipped, OfSatellite, OfStation}
use Rattle.c_header.proofs.SetLaws.{sets_append, sets_front}
use Rattle.bias_scan.specs.Walk.{with_satellite, with_station}
use Rattle.bias_scan.specs.Turns.{from, Halts, OnRow}
use Rattle.bias_fill.specs.Flat.{Lent, lent, four, three, of_satellites, of_stations, names_of, flat, in_front}
use Rattle.bias_fill.specs.Filled.{told_role, told, one, fours, threes, named, stored, Fits, past, rest, Enough, BiasRoom, Fills, Stays}
use Rattle.bias_fill.specs.declared.Fill.{Fill}

-- ---- one record more

module _ (b : Biases) (ns nt : ℕ) (l : Lent) where
  -- the areas with a satellite's four numbers, and with a station's numbers and name
  abbrev with_fours : List ℤ → Lent
  with_fours xs = lent (sets l.satellites (4 * ns) xs) l.stations l.names

  abbrev with_station_of : List ℤ → List ℕ → Lent
  with_station_of xs ys = lent l.satellites (sets l.stations (3 * nt) xs) (sets l.names (20 * nt) ys)

  satellite_stored : (a : Answer Fault Satellite) → stored b (ns + one a) nt (with_fours (fours a)) ≡ stored (with_satellite a b) ns nt l
  unfolding with_satellite
  satellite_stored (ok s) = λ i. lent (sets_append (four s) (of_satellites b.satellites) l.satellites (4 * ns) (4 * (ns + 1)) (omega arith) i) (sets l.stations (3 * nt) (of_stations b.stations)) (sets l.names (20 * nt) (names_of b.stations))
  satellite_stored (refused w) = let e : ns + 0 ≡ ns = omega arith in ap (λ (k : ℕ). stored b k nt l) e

  satellite_fits : (a : Answer Fault Satellite) → Fits (with_satellite a b) ns nt l → Fits b (ns + one a) nt (with_fours (fours a))
  unfolding with_satellite
  satellite_fits (ok s) h =
      let k = length-sets l.satellites (4 * ns) (four s) in
      record { satellites = omega (arith, h.satellites, length-append (four s) (of_satellites b.satellites)); stations = h.stations; names = h.names }
  satellite_fits (refused w) h = record { satellites = omega (arith, h.satellites); stations = h.stations; names = h.names }

  satellite_room : (a : Answer Fault Satellite) → Fits (with_satellite a b) ns nt l → 4 * ns + length (fours a) ≤ length l.satellites
  unfolding with_satellite
  satellite_room (ok s) h = omega (arith, h.satellites, length-append (four s) (of_satellites b.satellites))
  satellite_room (refused w) h = omega (arith, h.satellites)

  station_stored : (a : Answer Fault Station) → length (named a) ≡ 20 * one a → stored b ns (nt + one a) (with_station_of (threes a) (named a)) ≡ stored (with_station a b) ns nt l
  unfolding with_station
  station_stored (ok s) e =
      λ i. lent (sets l.satellites (4 * ns) (of_satellites b.satellites))
      (sets_append (three s) (of_stations b.stations) l.stations (3 * nt) (3 * (nt + 1)) (omega arith) i)
      (sets_append s.name (names_of b.stations) l.names (20 * nt) (20 * (nt + 1)) (omega arith) i)
  station_stored (refused w) e = let f : nt + 0 ≡ nt = omega arith in ap (λ (k : ℕ). stored b ns k l) f

  station_fits : (a : Answer Fault Station) → length (named a) ≡ 20 * one a → Fits (with_station a b) ns nt l → Fits b ns (nt + one a) (with_station_of (threes a) (named a))
  unfolding with_station
  station_fits (ok s) e h =
      let k = length-sets l.stations (3 * nt) (three s) in
      let m = length-sets l.names (20 * nt) s.name in
      record {
        satellites = h.satellites;
        stations = omega (arith, h.stations, length-append (three s) (of_stations b.stations));
        names = omega (arith, h.names, length-append s.name (names_of b.stations));
      }
  station_fits (refused w) e h = record { satellites = h.satellites; stations = omega (arith, h.stations); names = omega (arith, h.names) }

  station_room : (a : Answer Fault Station) → Fits (with_station a b) ns nt l
      → (3 * nt + length (threes a) ≤ length l.stations) × (20 * nt + length (named a) ≤ length l.names)
  unfolding with_station
  station_room (ok s) h =
      (omega (arith, h.stations, length-append (three s) (of_stations b.stations)), omega (arith, h.names, length-append s.name (names_of b.stations)))
  station_room (refused w) h = (omega (arith, h.stations), omega (arith, h.names))

-- ---- what is gathered is what is told

satellite_said : (g : Biases) (r : List ℕ) → Yields (λ s. satellite_of r ≡ ok s) (new_satellite g r)
unfolding new_satellite
satellite_said g r = bind_yields (satellite_of r) (λ x q. yields_map (λ y h. q ∙ ap ok (sym h.0)) (new_yields same_satellite? g.satellites x))

station_said : (g : Biases) (r : List ℕ) → Yields (λ s. station_of r ≡ ok s) (new_station g r)
unfolding new_station
station_said g r = bind_yields (station_of r) (λ x q. yields_map (λ y h. q ∙ ap ok (sym h.0)) (new_yields same_station? g.stations x))

gather_told : (f : Feed) (g : Biases) (p : Place) → Yields (λ b. b ≡ told p f) (gather g p f)
unfolding gather told short on_role told_role with_satellite with_station
gather_told (ends n) g p = y_no
gather_told (bad w) g p = y_no
gather_told (row n r f) g p = by (role p r) (λ h q. gather_told f h q)
  where
    by : (x : Role) → ((h : Biases) (q : Place) → Yields (λ b. b ≡ told q f) (gather h q f))
        → Yields (λ b. b ≡ told_role p r (λ q. told q f) x) (on_role g p n r (λ h q. gather h q f) x)
    by Last ih = y_ok refl
    by (Skipped q) ih = ih g q
    by OfSatellite ih =
        bind_yields (on_line n (new_satellite g r)) (λ s e.
        let q = yields _ (on_line_yields n (satellite_said g r)) e in
        amap_yields _ (yields_map (λ b h. ap (one_satellite s) h ∙ ap (λ (a : Answer Fault Satellite). with_satellite a (told p f)) (sym q)) (ih (one_satellite s g) p)))
    by OfStation ih =
        bind_yields (on_line n (new_station g r)) (λ s e.
        let q = yields _ (on_line_yields n (station_said g r)) e in
        amap_yields _ (yields_map (λ b h. ap (one_station s) h ∙ ap (λ (a : Answer Fault Station). with_station a (told p f)) (sym q)) (ih (one_station s g) p)))

pub gathered_told : (f : Feed) (g : Biases) (p : Place) (b : Biases) → gather g p f ≡ ok b → b ≡ told p f
gathered_told f g p b e = yields _ (gather_told f g p) e

-- ---- one row

module _ (t : List ℕ) (f : Fill) (l : Lent) (z : BiasRoom t f l) where
  none_told : (x : Feed) → NoRow x → told f.cursor.place x ≡ nothing
  unfolding told
  none_told (ends n) h = refl
  none_told (bad w) h = refl
  none_told (row n r y) h = absurd h

  nothing_left : rest t f ≡ nothing → l ≡ stored (rest t f) f.satellites f.stations l
  nothing_left e = ap (λ (b : Biases). stored b f.satellites f.stations l) (sym e)

  pub halted : (w : Why) → Halts t f.cursor.at f.cursor.lines f.cursor.place w → l ≡ stored (rest t f) f.satellites f.stations l
  halted w h = nothing_left (none_told (from t f.cursor.at f.cursor.lines) h.none)

  module _ (r : List ℕ) (next n : ℕ) where
    told_on : (x : Role) → OnRow t f.cursor.at f.cursor.lines f.cursor.place r next n x → rest t f ≡ told_role f.cursor.place r (λ q. told q (from t next n)) x
    unfolding told
    told_on x o = ap (told f.cursor.place) o.on ∙ rw o.is refl

    pub ended : OnRow t f.cursor.at f.cursor.lines f.cursor.place r next n Last → l ≡ stored (rest t f) f.satellites f.stations l
    unfolding told_role
    ended o = nothing_left (told_on Last o)

    pub skipped : (q : Place) → OnRow t f.cursor.at f.cursor.lines f.cursor.place r next n (Skipped q) → Fills t f l (Some (past q next n f.satellites f.stations)) l
    unfolding told_role
    skipped q o =
        let e = told_on (Skipped q) o in (
          record { within = o.within; lines = o.passed; fits = rw e at z.fits },
          ap (λ (b : Biases). stored b f.satellites f.stations l) (sym e),
          o.ahead,
        )

    -- the room of a row's record
    pub satellite_fit : OnRow t f.cursor.at f.cursor.lines f.cursor.place r next n OfSatellite → 4 * f.satellites + length (fours (satellite_of r)) ≤ length l.satellites
    unfolding told_role
    satellite_fit o = satellite_room (told f.cursor.place (from t next n)) f.satellites f.stations l (satellite_of r) (rw (told_on OfSatellite o) at z.fits)

    pub satellite_filled : OnRow t f.cursor.at f.cursor.lines f.cursor.place r next n OfSatellite → (k : ℕ) (xs : List ℤ) → k ≡ f.satellites + one (satellite_of r)
        → xs ≡ sets l.satellites (4 * f.satellites) (fours (satellite_of r))
        → Fills t f l (Some (past f.cursor.place next n k f.stations)) (lent xs l.stations l.names)
    unfolding told_role
    satellite_filled o k xs ek ex =
        let b = told f.cursor.place (from t next n) in
        let e = told_on OfSatellite o in
        let h = satellite_fits b f.satellites f.stations l (satellite_of r) (rw e at z.fits) in
        let s = satellite_stored b f.satellites f.stations l (satellite_of r) in
        rw (ek, ex) (
          record { within = o.within; lines = o.passed; fits = h },
          s ∙ ap (λ (b : Biases). stored b f.satellites f.stations l) (sym e),
          o.ahead,
        )

    pub station_fit : OnRow t f.cursor.at f.cursor.lines f.cursor.place r next n OfStation
        → (3 * f.stations + length (threes (station_of r)) ≤ length l.stations) × (20 * f.stations + length (named (station_of r)) ≤ length l.names)
    unfolding told_role
    station_fit o = station_room (told f.cursor.place (from t next n)) f.satellites f.stations l (station_of r) (rw (told_on OfStation o) at z.fits)

    pub station_filled : OnRow t f.cursor.at f.cursor.lines f.cursor.place r next n OfStation → length (named (station_of r)) ≡ 20 * one (station_of r)
        → (k : ℕ) (xs : List ℤ) (ys : List ℕ) → k ≡ f.stations + one (station_of r)
        → xs ≡ sets l.stations (3 * f.stations) (threes (station_of r)) → ys ≡ sets l.names (20 * f.stations) (named (station_of r))
        → Fills t f l (Some (past f.cursor.place next n f.satellites k)) (lent l.satellites xs ys)
    unfolding told_role
    station_filled o len k xs ys ek ex ey =
        let b = told f.cursor.place (from t next n) in
        let e = told_on OfStation o in
        let h = station_fits b f.satellites f.stations l (station_of r) len (rw e at z.fits) in
        let s = station_stored b f.satellites f.stations l (station_of r) len in
        rw (ek, ex, ey) (
          record { within = o.within; lines = o.passed; fits = h },
          s ∙ ap (λ (b : Biases). stored b f.satellites f.stations l) (sym e),
          o.ahead,
        )

-- ---- in front

pub in_front_is : (b : Biases) (l : Lent) → Fits b 0 0 l → stored b 0 0 l ≡ in_front (flat b) l
in_front_is b l h =
    λ i. lent (sets_front (of_satellites b.satellites) l.satellites (omega (arith, h.satellites)) i)
    (sets_front (of_stations b.stations) l.stations (omega (arith, h.stations)) i)
    (sets_front (names_of b.stations) l.names (omega (arith, h.names)) i)

-- ---- from row to row

pub starts : (t : List ℕ) (l : Lent) → Enough t l → Stays t l (past Outside 0 0 0 0) l
starts t l h = (record { within = omega arith; lines = omega arith; fits = h }, refl)

-- ---- a part of an area, written at once

pub mid_sets : {A : Type 0} (l ys xs : List A) (at k : ℕ) → k ≡ length ys → at + k ≤ length l → xs ≡ ys → put_mid at (at + k - at) l xs ≡ sets l at ys
mid_sets l ys xs at k z h e =
    let j : at + k - at ≡ length ys = omega arith in
    rw (e, j, sets-eq ys l at (omega arith), drop-drop (length ys) at l, append_assoc)
