-- The next row, from what the code finds of it.
use mathlib.Core.Path.{◌≡◌, refl, sym, ap, subst, ◌∙◌}
use mathlib.Core.List.{List, [], ◌∷◌}
use Prim.Native.Nat.{ℕ, zero, suc, ◌+◌, ◌-◌, ◌≤◌}
use native.Mathlib.Decide.{dec_le}
use native.Mathlib.Numerals.{add-one}
use native.Mathlib.Omega.{arith}
use lib.ListN.{length, get_or, take, drop, length-take, length-drop}
use Rattle.kit.specs.Answer.{Answer, ok, refused}
use Rattle.forms.specs.Columns.{columns}
use Rattle.forms.proofs.ColumnLaws.{columns_first}
use Rattle.layout.specs.Text.{pad}
use Rattle.reading.specs.declared.Fault.{Fault}
use Rattle.reading.specs.declared.Why.{Why}
use Rattle.reading.specs.Feed.{why, Feed, over, bad, row, split, feed, NoRow}
use Rattle.reading.specs.Maps.{short}
use Rattle.reading.proofs.LabelLaws.{label_columns}
use Rattle.read_lines.specs.Leads.{LeadsRow, after_all}
use Rattle.biases.specs.Biases.{Biases}
use Rattle.biases.specs.Rules.{of_satellite, of_station, Stands}
use Rattle.biases.specs.Read.{role, satellite_of, station_of, gather}
use Rattle.biases.proofs.Laws.{stands_role, satellite_label, station_label}
use Rattle.biases.specs.declared.Station.{Station}
use Rattle.biases.specs.declared.Place.{Place}
use Rattle.biases.specs.declared.Role.{Role}
use Rattle.biases.specs.declared.Role.TheVariants.{Last, Skipped, OfSatellite, OfStation}
use Rattle.bias_scan.specs.Walk.{Going, going, with_satellite, with_station, after_role, after}
use Rattle.bias_scan.proofs.WalkLaws.{row_after}
use Rattle.bias_scan.specs.Turns.{from, Halts, OnRow, OnLine, Heard, Unheard, Past, Twice, Still}

-- ---- no row

module _ (t : List ℕ) (at n : ℕ) (p : Place) where
  pub halts_over : (m l : ℕ) → from t at n ≡ over (suc m) → l ≡ after_all m → Halts t at n p (why 10 l 0)
  unfolding gather short after
  halts_over m l e f =
      record {
        none = subst NoRow (sym e) tt;
        refuses = λ g. ap (gather g p) e ∙ ap (λ (x : ℕ). refused (why 10 x 0)) (sym f);
        stays = λ g. ap (λ (x : Feed). after p g x) e ∙ ap (λ (x : Feed). going p g x) (sym e);
      }

  pub halts_bad : (w : Why) → from t at n ≡ bad w → Halts t at n p w
  unfolding gather after
  halts_bad w e =
      record {
        none = subst NoRow (sym e) tt;
        refuses = λ g. ap (gather g p) e;
        stays = λ g. ap (λ (x : Feed). after p g x) e ∙ ap (λ (x : Feed). going p g x) (sym e);
      }

-- ---- a label makes a line long

missing : (s : List ℕ) (i : ℕ) → length s ≤ i → get_or s i 32 ≡ 32
missing [] i h = refl
missing (b ∷ s) zero h = absurd (omega arith)
missing (b ∷ s) (suc i) h = missing s i (omega arith)

long_by : (line : List ℕ) → length line ≤ 80 → (b : ℕ) (n : List ℕ) → ¬ (b ≡ 32) → drop 60 (pad line) ≡ b ∷ n → 61 ≤ length line
long_by line fits b n unlike e = by (dec_le 61 (length line))
  where
    first : get_or line 60 32 ≡ b
    first = let f : get_or line 60 32 ∷ columns line 61 19 ≡ b ∷ n = sym (columns_first line 60 19) ∙ label_columns line fits ∙ e in cc

    by : Dec (61 ≤ length line) → 61 ≤ length line
    by (yes h) = h
    by (no h) = absurd (unlike (sym first ∙ missing line 60 (omega arith)))

module _ (line : List ℕ) (fits : length line ≤ 80) (p : Place) where
  satellite_long : role p (pad line) ≡ OfSatellite → 61 ≤ length line
  unfolding of_satellite
  satellite_long e = long_by line fits 80 _ (λ z. omega arith) (satellite_label (subst (λ (x : Role). Stands p (pad line) x) e (stands_role p (pad line))))

  station_long : role p (pad line) ≡ OfStation → 61 ≤ length line
  unfolding of_station
  station_long e = long_by line fits 83 _ (λ z. omega arith) (station_label (subst (λ (x : Role). Stands p (pad line) x) e (stands_role p (pad line))))

-- ---- a row

module _ (t : List ℕ) (at n start end next m : ℕ) (p : Place) (z : LeadsRow t at n start end next m) where
  abbrev here : List ℕ
  here = take (end - start) (drop start t)

  pub on_row : (x : Role) → role p (pad here) ≡ x → OnRow t at n p (pad here) next (m + 1) x
  on_row x e =
      record {
        ahead = omega (arith, z.after, z.ahead);
        within = z.within;
        passed = omega (arith, z.passed, z.ahead);
        on = z.on ∙ (λ i. row (sym (add-one m) i) (pad here) (feed (suc (sym (add-one m) i)) (split (drop next t))));
        is = e;
      }

  here_length : length here ≡ end - start
  here_length = let a = z.whole in let b = z.inside in simp (length-take, length-drop) (omega arith)

  on_line : (x : Role) → role p (pad here) ≡ x → 61 ≤ length here → OnLine t at n p start end next (m + 1) x
  on_line x e l =
      let k = here_length in
      record { row = on_row x e; inside = z.inside; fits = z.fits; whole = z.whole; long = omega (arith, z.after, z.behind, z.inside) }

  pub on_satellite : role p (pad here) ≡ OfSatellite → OnLine t at n p start end next (m + 1) OfSatellite
  on_satellite e = on_line OfSatellite e (satellite_long here (let k = here_length in omega (arith, z.fits)) p e)

  pub on_station : role p (pad here) ≡ OfStation → OnLine t at n p start end next (m + 1) OfStation
  on_station e = on_line OfStation e (station_long here (let k = here_length in omega (arith, z.fits)) p e)

-- ---- a station looked for

pub station_unheard : (x : Station) (a : Answer Fault Station) (g : Biases) → ¬ Heard x a → Unheard x g → Unheard x (with_station a g)
unfolding with_station
station_unheard x (ok y) g n h = (n, h)
station_unheard x (refused w) g n h = h

station_heard : (x : Station) (a : Answer Fault Station) (g : Biases) → Heard x a → ¬ Unheard x (with_station a g)
unfolding with_station
station_heard x (ok y) g h u = u.0 h
station_heard x (refused w) g h u = h

satellite_unheard : (x : Station) (a : Answer Fault _) (g : Biases) → Unheard x g → Unheard x (with_satellite a g)
unfolding with_satellite
satellite_unheard x (ok y) g h = h
satellite_unheard x (refused w) g h = h

module _ (t : List ℕ) (at n : ℕ) (p : Place) (r : List ℕ) (next m : ℕ) (x : Role) (z : OnRow t at n p r next m x) where
  pub after_is : (g : Biases) → after p g (from t at n) ≡ after_role p g m r (from t next m) x
  after_is g = ap (λ (f : Feed). after p g f) z.on ∙ row_after p g m r (from t next m) x z.is

module _ (t : List ℕ) (at n : ℕ) (p : Place) (r : List ℕ) (next m : ℕ) (s : Station) where
  pub last_still : OnRow t at n p r next m Last → Still t at n p
  unfolding after_role
  last_still z = record { stays = λ g. after_is t at n p r next m Last z g ∙ ap (λ (f : Feed). going p g f) (sym z.on) }

  pub skip_past : (q : Place) → OnRow t at n p r next m (Skipped q) → Past t at n p s q next m
  unfolding after_role
  skip_past q z =
      let e = after_is t at n p r next m (Skipped q) z in
      record {
        ahead = z.ahead;
        within = z.within;
        passed = z.passed;
        place = λ g. ap (λ (w : Going). w.place) (e g);
        rest = λ g. ap (λ (w : Going). w.rest) (e g);
        unheard = λ g h. subst (λ (w : Going). Unheard s w.given) (sym (e g)) h;
      }

  pub satellite_past : OnRow t at n p r next m OfSatellite → Past t at n p s p next m
  unfolding after_role
  satellite_past z =
      let e = after_is t at n p r next m OfSatellite z in
      record {
        ahead = z.ahead;
        within = z.within;
        passed = z.passed;
        place = λ g. ap (λ (w : Going). w.place) (e g);
        rest = λ g. ap (λ (w : Going). w.rest) (e g);
        unheard = λ g h. subst (λ (w : Going). Unheard s w.given) (sym (e g)) (satellite_unheard s (satellite_of r) g h);
      }

  pub station_past : OnRow t at n p r next m OfStation → ¬ Heard s (station_of r) → Past t at n p s p next m
  unfolding after_role
  station_past z u =
      let e = after_is t at n p r next m OfStation z in
      record {
        ahead = z.ahead;
        within = z.within;
        passed = z.passed;
        place = λ g. ap (λ (w : Going). w.place) (e g);
        rest = λ g. ap (λ (w : Going). w.rest) (e g);
        unheard = λ g h. subst (λ (w : Going). Unheard s w.given) (sym (e g)) (station_unheard s (station_of r) g u h);
      }

  pub station_twice : OnRow t at n p r next m OfStation → Heard s (station_of r) → Twice t at n p s
  unfolding after_role
  station_twice z u =
      let e = after_is t at n p r next m OfStation z in
      record { heard = λ g h. station_heard s (station_of r) g u (subst (λ (w : Going). Unheard s w.given) (e g) h) }
