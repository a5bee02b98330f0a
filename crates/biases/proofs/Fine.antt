-- What holds of biases that a text tells: their ranges; and a row's fields by the columns of its line, which may stop early.
use mathlib.Core.Path.{◌≡◌, refl, ap}
use mathlib.Core.Logic.{◌⊎◌, inl, inr}
use mathlib.Core.List.{List, [], ◌∷◌}
use Prim.Native.Nat.{ℕ, suc, ◌^◌, ◌≤◌, ◌<◌}
use native.Mathlib.Omega.{arith}
use lib.ListN.{length}
use lib.IntN.{ℤ, pos, negsuc, nat_abs}
use Rattle.kit.specs.Answer.{bind, All}
use Rattle.kit.proofs.ListLaws.{all_front}
use Rattle.kit.specs.Range.{Within, Printable}
use Rattle.forms.specs.Form as form
use Rattle.forms.specs.Show.{FieldRoom}
use Rattle.forms.proofs.ShowLaws.{spells_room}
use Rattle.mapset.specs.Header.{Written}
use Rattle.mapset.specs.MapSet.{MapSet}
use Rattle.layout.specs.Text.{pad}
use Rattle.layout.specs.Records.{Item, I, F, D, X, A, U, Vals, Fields, f_end, f_int, f_tenths, f_thousandths, f_blank, f_text, f_unread}
use Rattle.reading.specs.Feed.{Feed}
use Rattle.reading.proofs.LineLaws.{Carries, c_row, carries, Sized, sized, c_over}
use Rattle.reading.proofs.RecordLaws.{fields_written}
use Rattle.reading.proofs.ScanLaws.{scanned, read_is}
use Rattle.biases.specs.Biases.{Biases}
use Rattle.biases.specs.Rules.{satellite_items, station_items, Row, row_of, Letter, its_g, no_letter, its_r, SatelliteRow, satellite_row, StationRow, station_row, Tells, t_last, t_skipped, t_satellite, t_station, Makes, makes}
use Rattle.biases.specs.Read.{satellite_meant, station_meant, satellite_of, station_of}
use Rattle.biases.specs.declared.Satellite.{Satellite}
use Rattle.biases.specs.declared.Station.{Station}
use Rattle.biases.specs.declared.Place.{Place}

-- ---- ranges: every value fits 32 bits with a sign

abbrev Nine : ℤ → Type 0
Nine z = nat_abs z < 10 ^ 9

abbrev pub Lettered : ℕ → Type 0
Lettered s = (s ≡ 71) ⊎ (s ≡ 82)

pub record FineSatellite (s : Satellite) : Type 0 where
  pub system : Lettered s.system
  pub number : Within 1 99 s.number
  pub bias : Nine s.bias
  pub rms : Nine s.rms

pub record FineStation (s : Station) : Type 0 where
  pub system : Lettered s.system
  pub name : Written 20 s.name
  pub bias : Nine s.bias
  pub rms : Nine s.rms

lettered : {s : ℕ} {l : List ℕ} → Letter s l → Lettered s
lettered its_g = inl refl
lettered no_letter = inl refl
lettered its_r = inr refl

-- ten columns, one of them the point
nine : (z : ℤ) → FieldRoom form.F3 10 z → Nine z
nine (pos n) r = r.1
nine (negsuc n) r = let h : suc n < 100000000 = r.1 in omega arith

-- the numbers of Fw.3
abbrev Roomy : (is : List Item) → Vals is → Type 0
Roomy [] vs = Unit {0}
Roomy (I w ∷ is) vs = Roomy is vs.1
Roomy (F w ∷ is) vs = Roomy is vs.1
Roomy (D w ∷ is) vs = FieldRoom form.F3 w vs.0 × Roomy is vs.1
Roomy (X w ∷ is) vs = Roomy is vs
Roomy (A w ∷ is) vs = Roomy is vs.1
Roomy (U w ∷ is) vs = Roomy is vs

fields_roomy : {is : List Item} {vs : Vals is} {bs : List ℕ} → Fields is vs bs → Roomy is vs
fields_roomy f_end = tt
fields_roomy (f_int bs s h) = fields_roomy h
fields_roomy (f_tenths bs s h) = fields_roomy h
fields_roomy (f_thousandths bs s h) = (spells_room s, fields_roomy h)
fields_roomy (f_blank h) = fields_roomy h
fields_roomy (f_text bs e h) = fields_roomy h
fields_roomy (f_unread bs e h) = fields_roomy h

row_roomy : {is : List Item} {n : List ℕ} {vs : Vals is} {r : List ℕ} → Row is n vs r → Roomy is vs
row_roomy (row_of h) = fields_roomy h

fine_satellite : {s : Satellite} {r : List ℕ} → SatelliteRow s r → FineSatellite s
fine_satellite (satellite_row {b = b} {e = e} l a w h) =
    let t = row_roomy h in record { system = lettered a; number = w; bias = nine b t.0; rms = nine e t.1.0 }

named : {n : List ℕ} {vs : Vals station_items} {r : List ℕ} → Row station_items n vs r → Printable r → Written 20 vs.1.0
named {n} (row_of {fs} h) p = (fields_written h (all_front _ fs n p)).1.0

fine_station : {s : Station} {r : List ℕ} → StationRow s r → Printable r → FineStation s
fine_station (station_row {b = b} {e = e} l a h) p =
    let t = row_roomy h in record { system = lettered a; name = named h p; bias = nine b t.0; rms = nine e t.1.0 }

abbrev FineBiases : Biases → Type 0
FineBiases b = All FineSatellite b.satellites × All FineStation b.stations

told_fine : {f : Feed} {rs : List (List ℕ)} → Carries f rs → Sized f → {p : Place} {b : Biases} → Tells p b rs → FineBiases b
told_fine (c_row c) z (t_last s) = (tt, tt)
told_fine (c_row c) z (t_skipped q s h) = told_fine c z.1 h
told_fine (c_row c) z (t_satellite s w h) = let i = told_fine c z.1 h in ((fine_satellite w, i.0), i.1)
told_fine (c_row c) z (t_station s w h) = let i = told_fine c z.1 h in (i.0, (fine_station w z.0.1, i.1))
told_fine (c_over {n = n}) z {p = p} {b = b} x7 = elim x7 [ ]

pub made_fine : {m : MapSet} {b : Biases} {t : List ℕ} → Makes m b t → FineBiases b
made_fine (makes {ls = ls} r h o l e) = told_fine (carries l 1) (sized 1 ls) h

-- ---- by the line's columns

module _ (line : List ℕ) (fits : length line ≤ 80) where
  pub satellite_columns : satellite_of (pad line) ≡ bind (scanned 0 satellite_items line) satellite_meant
  unfolding satellite_of
  satellite_columns = ap (λ x. bind x satellite_meant) (read_is line fits satellite_items (omega arith))

  pub station_columns : station_of (pad line) ≡ bind (scanned 0 station_items line) station_meant
  unfolding station_of
  station_columns = ap (λ x. bind x station_meant) (read_is line fits station_items (omega arith))
