-- The bias reading is refused exactly as the map reading, or by the first row at fault.
use mathlib.Core.Path.{◌≡◌, refl, sym, ap, ◌∙◌}
use mathlib.Core.Logic.{◌↔◌, ◌⊎◌, inl, inr, ⊎_elim}
use mathlib.Core.List.{List}
use Prim.Native.Nat.{ℕ, ◌<◌}
use native.Mathlib.Omega.{arith}
use native.Mathlib.Decide.{ℕ_discrete}
use lib.ListN.{length, take}
use lib.IntN.{ℤ}
use Rattle.kit.specs.Answer.{Answer, ok, refused, need, bind, amap, same, sames, ¬_dec}
use Rattle.kit.proofs.AnswerLaws.{need_no, yields}
use Rattle.kit.proofs.TruthLaws.{decided, truth_ok, tested_at}
use Rattle.kit.specs.Truth.{truth}
use Rattle.mapset.specs.MapSet.{MapSet}
use Rattle.layout.specs.Records.{Vals}
use Rattle.layout.specs.Labels.{Label, version, description, comment, system, exponent, aux_start, aux_end, head, name, layout as layout_of, Rec}
use Rattle.layout.specs.Layout as layout
use Rattle.layout.specs.Layout.{Slots, Lines, Mode, plain, aux, Heads, h_description, h_comment, h_exponent, h_field, h_system, h_aux, h_skip, h_back, h_end, rows_of}
use Rattle.reading.specs.declared.Fault.{Fault}
use Rattle.reading.specs.declared.Why.{Why}
use Rattle.reading.specs.Feed.{fault, why, on_line, Feed, row, feed, split}
use Rattle.reading.specs.Fields.{scan}
use Rattle.reading.specs.Read.{read}
use Rattle.reading.proofs.LineLaws.{Carries, c_row, carries, clean, split_of, Sized, sized}
use Rattle.reading.proofs.RecordLaws.{rec_name}
use Rattle.reading.proofs.MapLaws.{on_line_yields}
use Rattle.reading.proofs.Blame.{Blames, b_ok, b_no, blamed, amap_blames, blames_map}
use Rattle.reading.proofs.Exact.{made_read}
use Rattle.biases.specs.Biases.{Biases, nothing, one_satellite, one_station}
use Rattle.biases.specs.Rules.{of_satellite, of_station, satellite_items, station_items, Letter, Labelled, Stands, s_last, s_opens, s_another, s_past, s_ends, s_unread, s_closes, s_satellite, s_station, s_unknown}
use Rattle.biases.specs.Faults.{BadSatellite, six, letter, number, twice, BadStation, Faulty, f_skipped, f_satellite, f_station, f_bad_satellite, f_bad_station}
use Rattle.biases.specs.Read.{role, system_of, satellite_meant, station_meant, satellite_of, station_of, same_satellite?, same_station?, new, new_satellite, new_station, on_role, gather, biases}
use Rattle.biases.proofs.Laws.{apart, role_of, stands_role, satellite_label, station_label, row_scan, scan_row, size_satellite, size_station, system_made, no_system, letter_before_number, satellite_made, station_made, satellite_yields, station_yields, system_yields, new_satellite_made, new_station_made, new_satellite_yields, new_station_yields}
use Rattle.biases.specs.declared.Satellite.{Satellite}
use Rattle.biases.specs.declared.Station.{Station}
use Rattle.biases.specs.declared.Place.{Place}
use Rattle.biases.specs.declared.Role.{Role}
use Rattle.biases.specs.declared.Place.TheVariants.{Outside as outside, Inside as inside, Beside as beside}
use Rattle.biases.specs.declared.Role.TheVariants.{Last as last, Skipped as skipped, OfSatellite as satellite, OfStation as station}

-- ---- chains of tests, with what they know

module _ {W A : Type 0} {P : W → Type 0} where
  need_blamed : {Q : Type 0} (d : Dec Q) (w : W) {x : Answer W A} → (¬ Q → P w) → (Q → Blames P x) → Blames P (need d w x)
  unfolding need
  need_blamed (yes q) w f b = b q
  need_blamed (no n) w f b = b_no (f n)

  bind_blamed : {B : Type 0} (o : Answer W B) {f : B → Answer W A} → ((w : W) → o ≡ refused w → P w) → ((b : B) → o ≡ ok b → Blames P (f b)) → Blames P (bind o f)
  unfolding bind
  bind_blamed (ok b) r h = h b refl
  bind_blamed (refused w) r h = b_no (r w refl)

-- ---- the system

-- a refusal is 7 at column 4, and no system is shown
system_refused : (l : List ℕ) (w : Fault) → system_of l ≡ refused w → (w ≡ fault 7 4) × ((s : ℕ) → ¬ Letter s l)
system_refused l w e = (by, λ s x. none x)
  where
    none : {s : ℕ} → Letter s l → ⊥
    none x = let y = system_made x in let z : ◌≡◌ {A = ℕ} 0 1 = cc in omega arith

    by : w ≡ fault 7 4
    by = let q = no_system (λ s x. none x) in cc

-- ---- a row at fault

module _ (g : Biases) (r : List ℕ) where
  bad_satellite : {e : Fault} → BadSatellite g r e → new_satellite g r ≡ refused e
  unfolding new_satellite satellite_of satellite_meant new bind
  bad_satellite (six h) = rw h
  bad_satellite (letter v h n) = rw (row_scan satellite_items of_satellite size_satellite h, letter_before_number v n)
  bad_satellite (number v s h x n) = rw (row_scan satellite_items of_satellite size_satellite h, system_made x, need_no _ _ _ n)
  bad_satellite (twice s h n) = rw (satellite_made h) (need_no _ _ _ n)

  bad_station : {e : Fault} → BadStation g r e → new_station g r ≡ refused e
  unfolding new_station station_of station_meant new bind
  bad_station (six h) = rw h
  bad_station (letter v h n) = rw (row_scan station_items of_station size_station h, no_system n)
  bad_station (twice s h n) = rw (station_made h) (need_no _ _ _ n)

module _ (g : Biases) (r : List ℕ) (z : length r ≡ 80) where
  twice_satellite : (s : Satellite) → satellite_of r ≡ ok s → Labelled of_satellite r → Blames (BadSatellite g r) (new same_satellite? g.satellites s)
  unfolding new
  twice_satellite s e p = need_blamed _ _ (λ n. twice s (yields _ (satellite_yields r z p) e) n) (λ _. b_ok)

  satellite_causes : Labelled of_satellite r → Blames (BadSatellite g r) (satellite_of r)
  unfolding satellite_of satellite_meant
  satellite_causes p =
      bind_blamed (scan 1 satellite_items (take 60 r)) (λ w e. six e) (λ v e.
      bind_blamed (system_of v.0)
      (λ w f. let (q, n) = system_refused v.0 w f in rw q (letter v (scan_row satellite_items of_satellite size_satellite r z p e) n))
      (λ s f. need_blamed _ _ (λ n. number v s (scan_row satellite_items of_satellite size_satellite r z p e) (yields _ (system_yields v.0) f) n) (λ _. b_ok)))

  first_satellite : Labelled of_satellite r → (w : Fault) → satellite_of r ≡ refused w → BadSatellite g r w
  first_satellite p w e = blamed (rw e at (satellite_causes p))

  satellite_blames : Labelled of_satellite r → Blames (BadSatellite g r) (new_satellite g r)
  unfolding new_satellite
  satellite_blames p = bind_blamed (satellite_of r) (first_satellite p) (λ s e. twice_satellite s e p)

  twice_station : (s : Station) → station_of r ≡ ok s → Labelled of_station r → Blames (BadStation g r) (new same_station? g.stations s)
  unfolding new
  twice_station s e p = need_blamed _ _ (λ n. twice s (yields _ (station_yields r z p) e) n) (λ _. b_ok)

  station_causes : Labelled of_station r → Blames (BadStation g r) (station_of r)
  unfolding station_of station_meant
  station_causes p =
      bind_blamed (scan 1 station_items (take 60 r)) (λ w e. six e) (λ v e.
      bind_blamed (system_of v.0)
      (λ w f. let (q, n) = system_refused v.0 w f in rw q (letter v (scan_row station_items of_station size_station r z p e) n))
      (λ s f. b_ok))

  first_station : Labelled of_station r → (w : Fault) → station_of r ≡ refused w → BadStation g r w
  first_station p w e = blamed (rw e at (station_causes p))

  station_blames : Labelled of_station r → Blames (BadStation g r) (new_station g r)
  unfolding new_station
  station_blames p = bind_blamed (station_of r) (first_station p) (λ s e. twice_station s e p)

-- ---- the first row at fault is refused

faulty_refused : {g : Biases} {p : Place} {f : Feed} {w : Why} → Faulty g p f w → gather g p f ≡ refused w
unfolding gather on_role bind on_line amap
faulty_refused (f_skipped q s h) = rw (role_of s) (faulty_refused h)
faulty_refused (f_satellite {g} x s a n h) = rw (role_of s, new_satellite_made g a n, faulty_refused h)
faulty_refused (f_station {g} x s a n h) = rw (role_of s, new_station_made g a n, faulty_refused h)
faulty_refused (f_bad_satellite {g} e {r = r} s h) = rw (role_of s, bad_satellite g r h)
faulty_refused (f_bad_station {g} e {r = r} s h) = rw (role_of s, bad_station g r h)

-- ---- and what is refused has one

-- the place after a row
abbrev after : Place → Role → Place
after p last = p
after p (skipped q) = q
after p satellite = p
after p station = p

on_line_refused : {A : Type 0} (n : ℕ) (x : Answer Fault A) (w : Why) → on_line n x ≡ refused w → (e : Fault) × (x ≡ refused e) × (w ≡ why e.number n e.column)
unfolding on_line
on_line_refused n (ok a) w e = let z : ◌≡◌ {A = ℕ} 0 1 = cc in absurd (omega arith)
on_line_refused n (refused f) w e = (f, refl, cc)

onward : (g : Biases) (p : Place) (n : ℕ) (r : List ℕ) (f : Feed) → length r ≡ 80 → (x : Role) → Stands p r x
    → ((h : Biases) → Blames (Faulty h (after p x) f) (gather h (after p x) f))
    → Blames (Faulty g p (row n r f)) (on_role g p n r (λ h q. gather h q f) x)
unfolding on_role
onward g p n r f z last s ih = b_ok
onward g p n r f z (skipped q) s ih = blames_map (λ w h. f_skipped q s h) (ih g)
onward g p n r f z satellite s ih =
    bind_blamed (on_line n (new_satellite g r))
    (λ w e. let (u, a, b) = on_line_refused n (new_satellite g r) w e in rw b (f_bad_satellite u s (blamed (rw a at (satellite_blames g r z (satellite_label s))))))
    (λ x e. let k = yields _ (on_line_yields n (new_satellite_yields g r z (satellite_label s))) e in
    amap_blames _ (blames_map (λ w h. f_satellite x s k.0 k.1 h) (ih (one_satellite x g))))
onward g p n r f z station s ih =
    bind_blamed (on_line n (new_station g r))
    (λ w e. let (u, a, b) = on_line_refused n (new_station g r) w e in rw b (f_bad_station u s (blamed (rw a at (station_blames g r z (station_label s))))))
    (λ x e. let k = yields _ (on_line_yields n (new_station_yields g r z (station_label s))) e in
    amap_blames _ (blames_map (λ w h. f_station x s k.0 k.1 h) (ih (one_station x g))))

-- ---- where the header's rules stand, and where the biases' rules do

data At : Mode → Place → Type 0 where
  at_plain : At plain outside
  at_inside : At aux inside
  at_beside : At aux beside

stay_plain : {r : List ℕ} {x : Role} → ¬ Labelled (name aux_start) r → Stands outside r x → At plain (after outside x)
stay_plain n (s_last e) = at_plain
stay_plain n (s_opens e t) = absurd (n e)
stay_plain n (s_another e t) = absurd (n e)
stay_plain n (s_past a b) = at_plain

opened : {r : List ℕ} {x : Role} → Labelled (name aux_start) r → Stands outside r x → At aux (after outside x)
unfolding name
opened {r} h (s_last e) = absurd (apart r (λ z. omega arith) h e)
opened h (s_opens e t) = at_inside
opened h (s_another e t) = at_beside
opened h (s_past a b) = absurd (b h)

stay_aux : {p : Place} {r : List ℕ} {x : Role} → At aux p → ¬ Labelled (name aux_end) r → Stands p r x → At aux (after p x)
stay_aux at_inside n (s_closes e) = absurd (n e)
stay_aux at_inside n (s_satellite e) = at_inside
stay_aux at_inside n (s_station e) = at_inside
stay_aux at_inside n (s_unknown a b c) = at_inside
stay_aux at_beside n (s_ends e) = absurd (n e)
stay_aux at_beside n (s_unread a) = at_beside

closed : {p : Place} {r : List ℕ} {x : Role} → At aux p → Labelled (name aux_end) r → Stands p r x → At plain (after p x)
unfolding name of_satellite of_station
closed at_inside h (s_closes e) = at_plain
closed {r = r} at_inside h (s_satellite e) = absurd (apart r (λ z. omega arith) h e)
closed {r = r} at_inside h (s_station e) = absurd (apart r (λ z. omega arith) h e)
closed at_inside h (s_unknown a b c) = absurd (a h)
closed at_beside h (s_ends e) = at_plain
closed at_beside h (s_unread a) = absurd (a h)

-- no other label is START OF AUX DATA
abbrev Other : Label → Type 0
Other l = ¬ (name l ≡ name aux_start)

other? : (l : Label) → Dec (Other l)
other? l = ¬_dec (same (name l) (name aux_start))

others : Other version × Other description × Other comment × Other exponent × Other system
unfolding other? name same sames ℕ_discrete ¬_dec
others = (decided (other? version), decided (other? description), decided (other? comment), decided (other? exponent), decided (other? system))

other_heads : (i : ℕ) → i < 15 → Other (head i)
unfolding other? name same sames ℕ_discrete ¬_dec truth
other_heads i h = truth_ok (other? (head i)) (tested_at (λ i. truth (other? (head i))) 15 tt i h)

not_start : {l : Label} {vs : Vals (layout_of l)} {r : List ℕ} → Rec l vs r → Other l → ¬ Labelled (name aux_start) r
not_start x n e = n (sym (rec_name x) ∙ e)

-- ---- the walk over the header

module _ {m : MapSet} where
  blames : {a : Mode} {e : ℤ} {left : Slots} {ds : Lines} {rs : List (List ℕ)} → Heads m a e left ds rs → {f : Feed} → Carries f rs → Sized f
      → (g : Biases) {p : Place} → At a p → Blames (Faulty g p f) (gather g p f)
  unfolding gather on_role
  blames (h_description x h) (c_row {n} {r} {f} c) z g at_plain =
      onward g outside n r f z.0.0 (role outside r) (stands_role outside r) (λ b. blames h c z.1 b (stay_plain (not_start x others.1) (stands_role outside r)))
  blames (h_comment x h) (c_row {n} {r} {f} c) z g at_plain =
      onward g outside n r f z.0.0 (role outside r) (stands_role outside r) (λ b. blames h c z.1 b (stay_plain (not_start x others.2) (stands_role outside r)))
  blames (h_exponent x _ h) (c_row {n} {r} {f} c) z g at_plain =
      onward g outside n r f z.0.0 (role outside r) (stands_role outside r) (λ b. blames h c z.1 b (stay_plain (not_start x others.3) (stands_role outside r)))
  blames (h_field i v l _ x _ _ h) (c_row {n} {r} {f} c) z g at_plain =
      onward g outside n r f z.0.0 (role outside r) (stands_role outside r) (λ b. blames h c z.1 b (stay_plain (not_start x (other_heads i l)) (stands_role outside r)))
  blames (h_system j k l _ _ x _ h) (c_row {n} {r} {f} c) z g at_plain =
      onward g outside n r f z.0.0 (role outside r) (stands_role outside r) (λ b. blames h c z.1 b (stay_plain (not_start x others.4) (stands_role outside r)))
  blames (h_aux x h) (c_row {n} {r} {f} c) z g at_plain =
      onward g outside n r f z.0.0 (role outside r) (stands_role outside r) (λ b. blames h c z.1 b (opened (rec_name x) (stands_role outside r)))
  blames (h_skip x h) (c_row {n} {r} {f} c) z g {p} q =
      onward g p n r f z.0.0 (role p r) (stands_role p r) (λ b. blames h c z.1 b (stay_aux q x (stands_role p r)))
  blames (h_back x h) (c_row {n} {r} {f} c) z g {p} q =
      onward g p n r f z.0.0 (role p r) (stands_role p r) (λ b. blames h c z.1 b (closed q (rec_name x) (stands_role p r)))
  blames (h_end x _ _ _ _ _) (c_row c) z g at_plain = rw (role_of (s_last (rec_name x))) b_ok

  rows_blame : {rs : List (List ℕ)} {f : Feed} → layout.Rows m rs → Carries f rs → Sized f → Blames (Faulty nothing outside f) (gather nothing outside f)
  unfolding gather
  rows_blame (rows_of v _ x h) (c_row {n} {r} {f} c) z =
      onward nothing outside n r f z.0.0 (role outside r) (stands_role outside r) (λ b. blames h c z.1 b (stay_plain (not_start x others.0) (stands_role outside r)))

  text_blames : {t : List ℕ} → layout.Makes m t → Blames (Faulty nothing outside (feed 1 (split t))) (gather nothing outside (feed 1 (split t)))
  text_blames (layout.makes {ls = ls} r l e) = rw (split_of e (clean l)) (rows_blame r (carries l 1) (sized 1 ls))

-- ---- the theorem

-- the text t is refused for its biases: its maps are read, and w is told of the first row at fault
pub record ForBiases (t : List ℕ) (w : Why) : Type 0 where
  pub maps : MapSet
  pub accepted : read t ≡ ok maps
  pub first : Faulty nothing outside (feed 1 (split t)) w

same_why : {v w : Why} → ◌≡◌ {A = Answer Why Biases} (refused v) (refused w) → v ≡ w
same_why e = cc

-- refused exactly as the map reading, or for its biases
pub biases_refused : (t : List ℕ) (w : Why) → (biases t ≡ refused w) ↔ ((read t ≡ refused w) ⊎ ForBiases t w)
unfolding biases bind
biases_refused t w = (there, ⊎_elim (λ e. rw e) back)
  where
    back : ForBiases t w → bind (read t) (λ m. gather nothing outside (feed 1 (split t))) ≡ refused w
    back x = rw x.accepted (faulty_refused x.first)

    by : (o : Answer Why MapSet) → read t ≡ o → bind o (λ m. gather nothing outside (feed 1 (split t))) ≡ refused w → (read t ≡ refused w) ⊎ ForBiases t w
    by (ok m) e q = inr (record { maps = m; accepted = e; first = blamed (rw q at (text_blames (made_read t e))) })
    by (refused v) e q = let z : v ≡ w = same_why q in inl (e ∙ ap refused z)

    there : bind (read t) (λ m. gather nothing outside (feed 1 (split t))) ≡ refused w → (read t ≡ refused w) ⊎ ForBiases t w
    there q = by (read t) refl q
