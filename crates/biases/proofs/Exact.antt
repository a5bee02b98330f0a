-- The bias reading accepts a text exactly when the rules make it from some biases, and hands back the only ones.
use mathlib.Core.Path.{◌≡◌}
use mathlib.Core.Logic.{◌↔◌}
use mathlib.Core.List.{List, ◌∷◌}
use Prim.Native.Nat.{ℕ}
use native.Mathlib.Omega.{arith}
use Rattle.kit.specs.Answer.{ok, refused, bind, amap}
use Rattle.kit.proofs.AnswerLaws.{Yields, y_ok, y_no, yields, bind_yields, amap_yields, yields_map}
use Rattle.mapset.specs.MapSet.{MapSet}
use Rattle.layout.specs.Layout as layout
use Rattle.reading.specs.declared.Why.{Why}
use Rattle.reading.specs.Feed.{on_line, Feed, feed, split}
use Rattle.reading.specs.Read.{read}
use Rattle.reading.proofs.LineLaws.{Carries, c_over, c_row, carries, clean, split_of, Sized, sized}
use Rattle.reading.proofs.MapLaws.{on_line_yields}
use Rattle.reading.specs.Maps.{short}
use Rattle.reading.proofs.Exact.{read_made, made_read}
use Rattle.biases.specs.Biases.{Biases, nothing, one_satellite, one_station, Once}
use Rattle.biases.specs.Rules.{Stands, Tells, t_last, t_skipped, t_satellite, t_station, Makes, makes}
use Rattle.biases.specs.Read.{role, new_satellite, new_station, on_role, gather, biases}
use Rattle.biases.proofs.Laws.{role_of, stands_role, satellite_label, station_label, new_satellite_made, new_station_made, new_satellite_yields, new_station_yields}
use Rattle.biases.specs.declared.Place.{Place}
use Rattle.biases.specs.declared.Role.{Role}
use Rattle.biases.specs.declared.Place.TheVariants.{Outside as outside}
use Rattle.biases.specs.declared.Role.TheVariants.{Last as last, Skipped as skipped, OfSatellite as satellite, OfStation as station}

-- ---- what the rules make is read

pub gathers : {f : Feed} {rs : List (List ℕ)} → Carries f rs → (g : Biases) {p : Place} {b : Biases} → Tells p b rs → Once g b → gather g p f ≡ ok b
unfolding gather on_role bind on_line amap
gathers (c_row c) g (t_last s) o = rw (role_of s)
gathers (c_row c) g (t_skipped q s h) o = rw (role_of s) (gathers c g h o)
gathers (c_row c) g (t_satellite {s = x} s w h) o =
    rw (role_of s, new_satellite_made g w o.satellites.0, gathers c (one_satellite x g) h (record { satellites = o.satellites.1; stations = o.stations }))
gathers (c_row c) g (t_station {s = x} s w h) o =
    rw (role_of s, new_station_made g w o.stations.0, gathers c (one_station x g) h (record { satellites = o.satellites; stations = o.stations.1 }))
gathers (c_over {n = n}) g {p = p} {b = b} x7 o = elim x7 [ ]

pub biases_read : {m : MapSet} {b : Biases} {t : List ℕ} → Makes m b t → biases t ≡ ok b
unfolding biases bind
biases_read (makes r h o l e) = rw (read_made (layout.makes r l e), split_of e (clean l)) (gathers (carries l 1) nothing h o)

-- ---- what is read the rules make

abbrev Gathered : Biases → Place → List (List ℕ) → Biases → Type 0
Gathered g p rs b = Tells p b rs × Once g b

pub gathered : {f : Feed} {rs : List (List ℕ)} → Carries f rs → Sized f → (g : Biases) (p : Place) → Yields (Gathered g p rs) (gather g p f)
unfolding gather on_role short
gathered c_over z g p = y_no
gathered (c_row {n} {r} {f} {rs} c) z g p = by (role p r) (stands_role p r) (λ g q. gathered c z.1 g q)
  where
    by : (x : Role) → Stands p r x → ((g : Biases) (q : Place) → Yields (Gathered g q rs) (gather g q f))
        → Yields (Gathered g p (r ∷ rs)) (on_role g p n r (λ h q. gather h q f) x)
    by last s ih = y_ok (t_last s, record { satellites = tt; stations = tt })
    by (skipped q) s ih = yields_map (λ b h. (t_skipped q s h.0, h.1)) (ih g q)
    by satellite s ih =
        bind_yields (on_line n (new_satellite g r)) (λ x e.
        let w = yields _ (on_line_yields n (new_satellite_yields g r z.0.0 (satellite_label s))) e in
        amap_yields _ (yields_map (λ b h. (t_satellite s w.0 h.0, record { satellites = (w.1, h.1.satellites); stations = h.1.stations })) (ih (one_satellite x g) p)))
    by station s ih =
        bind_yields (on_line n (new_station g r)) (λ x e.
        let w = yields _ (on_line_yields n (new_station_yields g r z.0.0 (station_label s))) e in
        amap_yields _ (yields_map (λ b h. (t_station s w.0 h.0, record { satellites = h.1.satellites; stations = (w.1, h.1.stations) })) (ih (one_station x g) p)))

from_rows : {m : MapSet} (t : List ℕ) → layout.Makes m t → Yields (λ b. Makes m b t) (gather nothing outside (feed 1 (split t)))
from_rows t (layout.makes {ls = ls} r l e) =
    rw (split_of e (clean l)) (yields_map (λ b h. makes r h.0 h.1 l e) (gathered (carries l 1) (sized 1 ls) nothing outside))

-- with the map set that the text is made from
pub read_biases : {b : Biases} (t : List ℕ) → biases t ≡ ok b → (m : MapSet) × Makes m b t
unfolding biases
read_biases t e = yields {Q = λ b. (m : MapSet) × Makes m b t} (biases t) (bind_yields (read t) (λ m q. yields_map (λ b h. (m, h)) (from_rows t (made_read t q)))) e

-- ---- the theorems

-- accepted exactly when made
pub biases_exactly : (b : Biases) (t : List ℕ) → ((m : MapSet) × Makes m b t) ↔ (biases t ≡ ok b)
biases_exactly b t = (λ h. biases_read h.1, read_biases t)

-- from the only biases
pub biases_made_once : {m m' : MapSet} {b b' : Biases} {t : List ℕ} → Makes m b t → Makes m' b' t → b ≡ b'
biases_made_once x y = cc (biases_read x, biases_read y)

-- a refusal of the map reading is the bias reading's
pub maps_first : {w : Why} (t : List ℕ) → read t ≡ refused w → biases t ≡ refused w
unfolding biases bind
maps_first t e = rw e

-- a refused text is made from no biases
pub refused_unmade : {w : Why} (t : List ℕ) → biases t ≡ refused w → (m : MapSet) (b : Biases) → ¬ Makes m b t
refused_unmade t e m b x = let y = biases_read x in let z : ◌≡◌ {A = ℕ} 0 1 = cc in omega arith
