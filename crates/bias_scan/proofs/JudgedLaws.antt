-- One row of the scan, by what it is and says.
use mathlib.Core.Path.{◌≡◌, refl, sym, ap, ◌∙◌}
use mathlib.Core.List.{List, [], ◌∷◌}
use Prim.Native.Nat.{ℕ, ◌+◌, ◌*◌, ◌≤◌, ◌<◌}
use native.Mathlib.Omega.{arith}
use lib.ListN.{length, set, replicate}
use Rattle.kit.specs.Answer.{Answer, ok, refused, bind, amap, All, all_dec, ¬_dec}
use Rattle.kit.proofs.AnswerLaws.{need_yes, need_no}
use Rattle.reading.specs.declared.Fault.{Fault}
use Rattle.reading.specs.declared.Why.{Why}
use Rattle.reading.specs.Feed.{fault, why, on_line, Feed}
use Rattle.biases.specs.Biases.{Biases, nothing, one_satellite, one_station, SameSatellite, SameStation}
use Rattle.biases.specs.Read.{satellite_of, station_of, same_satellite?, same_station?, new, new_satellite, new_station, on_role, gather}
use Rattle.biases.specs.declared.Satellite.{Satellite}
use Rattle.biases.specs.declared.Station.{Station}
use Rattle.biases.specs.declared.Place.{Place}
use Rattle.biases.specs.declared.Place.TheVariants.{Outside}
use Rattle.biases.specs.declared.Role.{Role}
use Rattle.biases.specs.declared.Role.TheVariants.{Last, Skipped, OfSatellite, OfStation}
use Rattle.bias_scan.specs.Walk.{Going, going, first, with_satellite, with_station, after_role, walked, backwards, joined, onto}
use Rattle.bias_scan.proofs.WalkLaws.{row_gather, walked_on}
use Rattle.bias_scan.specs.Marks.{spot, marked}
use Rattle.bias_scan.specs.Turns.{from, cursor, Halts, OnRow}
use Rattle.bias_scan.specs.Held.{Good}
use Rattle.bias_scan.proofs.TurnLaws.{after_is}
use Rattle.bias_scan.specs.Judged.{given, Stands, past_row, past_satellite, past_station, Gives}
use Rattle.bias_scan.specs.declared.Scan.{Scan}

length_backwards : {A : Type 0} (xs ys : List A) → length (backwards xs ys) ≡ length xs + length ys
length_backwards [] ys = omega arith
length_backwards (x ∷ xs) ys = length_backwards xs (x ∷ ys) ∙ omega arith

-- one more, in front of what comes, is one more of what was given
onto_satellite : (s : Satellite) (g : Biases) (x : Answer _ Biases) → onto g (amap (one_satellite s) x) ≡ onto (one_satellite s g) x
unfolding amap
onto_satellite s g (ok b) = refl
onto_satellite s g (refused w) = refl

onto_station : (s : Station) (g : Biases) (x : Answer _ Biases) → onto g (amap (one_station s) x) ≡ onto (one_station s g) x
unfolding amap
onto_station s g (ok b) = refl
onto_station s g (refused w) = refl

-- ---- where the scan stood

module _ (t : List ℕ) (s : Scan) (z : Stands t s) where
  abbrev g : Biases
  g = given t s

  pub halted : (w : Why) → Halts t s.cursor.at s.cursor.lines s.cursor.place w → gather nothing Outside (first t) ≡ refused w
  unfolding amap
  halted w h = z.same ∙ ap (onto g) (h.refuses g)

  module _ (r : List ℕ) (next m : ℕ) where
    gathers : (x : Role) → OnRow t s.cursor.at s.cursor.lines s.cursor.place r next m x
        → gather nothing Outside (first t) ≡ onto g (on_role g s.cursor.place m r (λ h q. gather h q (from t next m)) x)
    gathers x o = z.same ∙ ap (λ (f : Feed). onto g (gather g s.cursor.place f)) o.on ∙ ap (onto g) (row_gather s.cursor.place g m r (from t next m) x o.is)

    walks : (x : Role) → OnRow t s.cursor.at s.cursor.lines s.cursor.place r next m x → walked (s.rows + 1) (first t) ≡ after_role s.cursor.place g m r (from t next m) x
    walks x o = walked_on s.rows (first t) s.cursor.place (from t s.cursor.at s.cursor.lines) z.place z.rest ∙ after_is t s.cursor.at s.cursor.lines s.cursor.place r next m x o g

    pub ended : OnRow t s.cursor.at s.cursor.lines s.cursor.place r next m Last → Gives t s.satellites s.stations
    unfolding on_role amap
    ended o =
        let b : Biases = joined g nothing in
        record {
          biases = b;
          gathers = gathers Last o;
          satellites = z.satellites ∙ sym (length_backwards g.satellites [] ∙ omega arith);
          stations = z.stations ∙ sym (length_backwards g.stations [] ∙ omega arith);
          fours = omega (arith, z.fours, z.within);
          twenties = omega (arith, z.twenties, z.within);
        }

    -- a scan that stands one row on, with what that row gave
    moved : (x : Role) (s' : Scan) (g' : Biases) → OnRow t s.cursor.at s.cursor.lines s.cursor.place r next m x → s'.rows ≡ s.rows + 1 → s'.cursor.at ≡ next → s'.cursor.lines ≡ m
        → after_role s.cursor.place g m r (from t next m) x ≡ going s'.cursor.place g' (from t next m)
        → s'.satellites ≡ length g'.satellites → s'.stations ≡ length g'.stations → 4 * s'.satellites ≤ next → 20 * s'.stations ≤ next
        → s'.marks ≡ marked g'.satellites
        → onto g (on_role g s.cursor.place m r (λ h q. gather h q (from t next m)) x) ≡ onto g' (gather g' s'.cursor.place (from t next m))
        → Stands t s'
    moved x s' g' o er ea el e cs ct f w mk sm =
        let k : walked s'.rows (first t) ≡ going s'.cursor.place g' (from t next m) = ap (λ (i : ℕ). walked i (first t)) er ∙ walks x o ∙ e in
        let kg : given t s' ≡ g' = ap (λ (v : Going). v.given) k in
        let there : from t next m ≡ from t s'.cursor.at s'.cursor.lines = λ i. from t (sym ea i) (sym el i) in
        record {
          within = omega (arith, o.within);
          lines = omega (arith, o.passed);
          rows = omega (arith, z.rows, o.ahead);
          place = ap (λ (v : Going). v.place) k;
          rest = ap (λ (v : Going). v.rest) k ∙ there;
          satellites = cs ∙ ap (λ (b : Biases). length b.satellites) (sym kg);
          stations = ct ∙ ap (λ (b : Biases). length b.stations) (sym kg);
          fours = omega arith;
          twenties = omega arith;
          marks = mk ∙ ap (λ (b : Biases). marked b.satellites) (sym kg);
          same = gathers x o ∙ sm ∙ (λ i. onto (sym kg i) (gather (sym kg i) s'.cursor.place (there i)));
        }

    pub skipped : (q : Place) → OnRow t s.cursor.at s.cursor.lines s.cursor.place r next m (Skipped q) → Stands t (past_row s (cursor q next m))
    unfolding after_role on_role
    skipped q o =
        moved (Skipped q) (past_row s (cursor q next m)) g o refl refl refl refl
        z.satellites z.stations (omega (arith, z.fours, o.ahead)) (omega (arith, z.twenties, o.ahead)) z.marks refl

    -- ---- a satellite's row
    module _ (o : OnRow t s.cursor.at s.cursor.lines s.cursor.place r next m OfSatellite) where
      pub satellite_refused : (k c : ℕ) → refused (fault k c) ≡ satellite_of r → gather nothing Outside (first t) ≡ refused (why k m c)
      unfolding on_role new_satellite bind on_line amap
      satellite_refused k c e = gathers OfSatellite o ∙ rw (← e) refl

      module _ (x : Satellite) (e : ok x ≡ satellite_of r) where
        pub satellite_twice : ¬ All (λ y. ¬ SameSatellite x y) g.satellites → gather nothing Outside (first t) ≡ refused (why 5 m 61)
        unfolding on_role new_satellite new bind on_line amap
        satellite_twice n = gathers OfSatellite o ∙ rw (← e, need_no (all_dec (λ y. ¬_dec (same_satellite? x y)) g.satellites) (fault 5 61) (ok x) n) refl

        pub satellite_new : All (λ y. ¬ SameSatellite x y) g.satellites → s.cursor.at + 61 ≤ next → Stands t (past_satellite s (spot x) (cursor s.cursor.place next m))
        unfolding after_role with_satellite on_role new_satellite new bind on_line marked
        satellite_new a l =
            moved OfSatellite (past_satellite s (spot x) (cursor s.cursor.place next m))
            (one_satellite x g) o refl refl refl (ap (λ (v : Answer Fault Satellite). going s.cursor.place (with_satellite v g) (from t next m)) (sym e))
            (let c = z.satellites in omega arith) z.stations (omega (arith, z.fours)) (omega (arith, z.twenties)) (ap (λ (l : List ℕ). set l (spot x) 1) z.marks)
            (rw (← e, need_yes (all_dec (λ y. ¬_dec (same_satellite? x y)) g.satellites) (fault 5 61) (ok x) a) (onto_satellite x g (gather (one_satellite x g) s.cursor.place (from t next m))))

    -- ---- a station's row
    module _ (o : OnRow t s.cursor.at s.cursor.lines s.cursor.place r next m OfStation) where
      pub station_refused : (k c : ℕ) → refused (fault k c) ≡ station_of r → gather nothing Outside (first t) ≡ refused (why k m c)
      unfolding on_role new_station bind on_line amap
      station_refused k c e = gathers OfStation o ∙ rw (← e) refl

      module _ (x : Station) (e : ok x ≡ station_of r) where
        pub station_twice : ¬ All (λ y. ¬ SameStation x y) g.stations → gather nothing Outside (first t) ≡ refused (why 5 m 61)
        unfolding on_role new_station new bind on_line amap
        station_twice n = gathers OfStation o ∙ rw (← e, need_no (all_dec (λ y. ¬_dec (same_station? x y)) g.stations) (fault 5 61) (ok x) n) refl

        -- its row is one of those that are known to give none of a row before
        pub station_good : (k : ℕ) → Good t k → s.rows < k → All (λ y. ¬ SameStation x y) g.stations
        unfolding after_role with_station
        station_good k q h =
            (q.new s.rows h).new x (ap (λ (v : Going). v.given.stations) (walks OfStation o) ∙ ap (λ (v : Answer Fault Station). (with_station v g).stations) (sym e))

        pub station_new : All (λ y. ¬ SameStation x y) g.stations → s.cursor.at + 61 ≤ next → Stands t (past_station s (cursor s.cursor.place next m))
        unfolding after_role with_station on_role new_station new bind on_line
        station_new a l =
            moved OfStation (past_station s (cursor s.cursor.place next m))
            (one_station x g) o refl refl refl (ap (λ (v : Answer Fault Station). going s.cursor.place (with_station v g) (from t next m)) (sym e))
            z.satellites (let c = z.stations in omega arith) (omega (arith, z.fours)) (omega (arith, z.twenties)) z.marks
            (rw (← e, need_yes (all_dec (λ y. ¬_dec (same_station? x y)) g.stations) (fault 5 61) (ok x) a) (onto_station x g (gather (one_station x g) s.cursor.place (from t next m))))

-- ---- where the scan starts

onto_nothing : (x : Answer _ Biases) → x ≡ onto nothing x
unfolding amap
onto_nothing (ok b) = refl
onto_nothing (refused w) = refl

pub stands_first : (t : List ℕ) → Stands t (record { cursor = cursor Outside 0 0; rows = 0; satellites = 0; stations = 0; marks = replicate 198 0 })
unfolding walked marked
stands_first t =
    record {
      within = omega arith;
      lines = omega arith;
      rows = omega arith;
      place = refl;
      rest = refl;
      satellites = refl;
      stations = refl;
      fours = omega arith;
      twenties = omega arith;
      marks = refl;
      same = onto_nothing (gather nothing Outside (first t));
    }
