-- A refusal of the biases has one of 01's numbers; what is needed, by how many are given.
use Rattle.std.specs.Prelude.{Option, Some, None}
use mathlib.Core.Path.{◌≡◌, refl, sym, ap, ◌∙◌}
use mathlib.Core.Logic.{⊎_elim}
use mathlib.Core.List.{List, [], ◌∷◌}
use Prim.Native.Nat.{ℕ, ◌+◌, ◌*◌}
use native.Mathlib.Omega.{arith}
use lib.ListN.{length, take, drop, length-append}
use lib.IntN.{ℤ}
use Rattle.kit.specs.Answer.{Answer, ok, refused, amap, need, All}
use Rattle.kit.specs.Range.{Within}
use Rattle.forms.specs.Form as form
use Rattle.forms.specs.Read.{read_field}
use Rattle.layout.specs.Records.{Item, I, F, D, X, A, U}
use Rattle.reading.specs.declared.Fault.{Fault}
use Rattle.reading.specs.declared.Why.{Why}
use Rattle.reading.specs.Feed.{fault, Feed}
use Rattle.reading.specs.Fields.{number, blanks, blank, scan}
use Rattle.read_judge.proofs.JudgeLaws.{one_to_ten}
use Rattle.biases.specs.Biases.{Biases}
use Rattle.biases.specs.Rules.{satellite_items, station_items}
use Rattle.biases.specs.Read.{biases}
use Rattle.biases.specs.Faults.{BadSatellite, BadStation, Faulty, f_skipped, f_satellite, f_station, f_bad_satellite, f_bad_station}
use Rattle.biases.specs.Faults as faults
use Rattle.biases.proofs.Refusals.{biases_refused}
use Rattle.biases.proofs.Fine.{FineStation}
use Rattle.biases.specs.declared.Satellite.{Satellite}
use Rattle.biases.specs.declared.Station.{Station}
use Rattle.biases.specs.declared.Place.{Place}
use Rattle.bias_fill.specs.Flat.{four, three, of_satellites, of_stations, names_of}

-- ---- an ill-formed field is 6

number_six : {B : Type 0} (o : Option ℤ) (c : ℕ) (f : ℤ → Answer Fault B) (e : Fault) → ((z : ℤ) → f z ≡ refused e → e.number ≡ 6) → number o c f ≡ refused e → e.number ≡ 6
unfolding number
number_six (Some z) c f e h q = h z q
number_six None c f e h q = let g : fault 6 c ≡ e = cc in sym (ap (λ (w : Fault). w.number) g)

amap_six : {B C : Type 0} (g : B → C) (x : Answer Fault B) (e : Fault) → amap g x ≡ refused e → x ≡ refused e
unfolding amap
amap_six g (ok a) e q = let z : ◌≡◌ {A = ℕ} 0 1 = cc in absurd (omega arith)
amap_six g (refused w) e q = let g : w ≡ e = cc in ap refused g

need_six : {P : Type 0} {B : Type 0} (d : Dec P) (c : ℕ) (x : Answer Fault B) (e : Fault) → (x ≡ refused e → e.number ≡ 6) → need d (fault 6 c) x ≡ refused e → e.number ≡ 6
unfolding need
need_six (yes p) c x e h q = h q
need_six (no n) c x e h q = let g : fault 6 c ≡ e = cc in sym (ap (λ (w : Fault). w.number) g)

scan_six : (is : List Item) (c : ℕ) (bs : List ℕ) (e : Fault) → scan c is bs ≡ refused e → e.number ≡ 6
unfolding scan blank
scan_six [] c bs e q = let z : ◌≡◌ {A = ℕ} 0 1 = cc in absurd (omega arith)
scan_six (I w ∷ is) c bs e q = number_six (read_field form.I (take w bs)) c _ e (λ z r. scan_six is (c + w) (drop w bs) e (amap_six _ (scan (c + w) is (drop w bs)) e r)) q
scan_six (F w ∷ is) c bs e q = number_six (read_field form.F1 (take w bs)) c _ e (λ z r. scan_six is (c + w) (drop w bs) e (amap_six _ (scan (c + w) is (drop w bs)) e r)) q
scan_six (D w ∷ is) c bs e q = number_six (read_field form.F3 (take w bs)) c _ e (λ z r. scan_six is (c + w) (drop w bs) e (amap_six _ (scan (c + w) is (drop w bs)) e r)) q
scan_six (X w ∷ is) c bs e q = need_six _ (c + blanks (take w bs)) (scan (c + w) is (drop w bs)) e (λ r. scan_six is (c + w) (drop w bs) e r) q
scan_six (A w ∷ is) c bs e q = scan_six is (c + w) (drop w bs) e (amap_six _ (scan (c + w) is (drop w bs)) e q)
scan_six (U w ∷ is) c bs e q = scan_six is (c + w) (drop w bs) e q

-- ---- 5, 6 or 7

satellite_number : {g : Biases} {r : List ℕ} {e : Fault} → BadSatellite g r e → Within 5 7 e.number
satellite_number {r = r} {e = e} (faults.BadSatellite.six q) = let k = scan_six satellite_items 1 (take 60 r) e q in (omega arith, omega arith)
satellite_number (faults.BadSatellite.letter v h n) = (omega arith, omega arith)
satellite_number (faults.BadSatellite.number v s h l n) = (omega arith, omega arith)
satellite_number (faults.BadSatellite.twice s h n) = (omega arith, omega arith)

station_number : {g : Biases} {r : List ℕ} {e : Fault} → BadStation g r e → Within 5 7 e.number
station_number {r = r} {e = e} (faults.BadStation.six q) = let k = scan_six station_items 1 (take 60 r) e q in (omega arith, omega arith)
station_number (faults.BadStation.letter v h n) = (omega arith, omega arith)
station_number (faults.BadStation.twice s h n) = (omega arith, omega arith)

faulty_number : {g : Biases} {p : Place} {f : Feed} {w : Why} → Faulty g p f w → Within 5 7 w.number
faulty_number (f_skipped q s h) = faulty_number h
faulty_number (f_satellite s a b c h) = faulty_number h
faulty_number (f_station s a b c h) = faulty_number h
faulty_number (f_bad_satellite e s h) = satellite_number h
faulty_number (f_bad_station e s h) = station_number h

pub bias_number : (t : List ℕ) (w : Why) → biases t ≡ refused w → Within 1 10 w.number
bias_number t w e = ⊎_elim (λ r. one_to_ten t w r) (λ h. let k = faulty_number h.first in (omega arith, omega arith)) ((biases_refused t w).0 e)

-- ---- four numbers, three numbers and 20 bytes each

pub fours_length : (ss : List Satellite) → length (of_satellites ss) ≡ 4 * length ss
fours_length [] = refl
fours_length (s ∷ ss) = length-append (four s) (of_satellites ss) ∙ (let k = fours_length ss in omega arith)

pub threes_length : (ss : List Station) → length (of_stations ss) ≡ 3 * length ss
threes_length [] = refl
threes_length (s ∷ ss) = length-append (three s) (of_stations ss) ∙ (let k = threes_length ss in omega arith)

pub names_length : (ss : List Station) → All FineStation ss → length (names_of ss) ≡ 20 * length ss
names_length [] a = refl
names_length (s ∷ ss) a = length-append s.name (names_of ss) ∙ (let k = names_length ss a.1 in omega (arith, a.0.name.0))
