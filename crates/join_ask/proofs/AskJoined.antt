-- 02, Ask 11: up to the earlier set's last epoch but one a joined set answers as the earlier set, from the later set's first epoch on as the later.
use mathlib.Core.Path.{◌≡◌, refl, sym, ap, subst, ◌∙◌}
use mathlib.Core.Logic.{inl, inr, ◌↔◌}
use mathlib.Core.List.{List, [], ◌∷◌, ◌++◌, map}
use Prim.Native.Nat.{ℕ, ◌+◌, ◌-◌, ◌*◌, ◌≤◌}
use native.Mathlib.Omega.{arith}
use lib.IntN.{ℤ}
use lib.ListN.{length, take, length-append, length-map}
use lib.Seq.{take_all, length-take-le}
use Rattle.mapset.specs.Grid.{layers, rows, columns}
use Rattle.mapset.specs.MapSet.{MapSet}
use Rattle.mapset.specs.Areas.{Areas, EpochRules, Sound, values, value_need, blocks}
use Rattle.mapset.specs.Sound.{Runs}
use Rattle.mapset.specs.declared.Kind.TheVariants.{Rms, Height}
use Rattle.mapset.specs.declared.Grid.{Grid}
use Rattle.mapset.specs.declared.Header.{Header}
use Rattle.mapset.proofs.Groups.{run_below}
use Rattle.areas.specs.Flat.{areas_of, areas}
use Rattle.areas.specs.Formed.{Formed}
use Rattle.areas.specs.Valid.{needed, Valid}
use Rattle.areas.proofs.Needs.{needs}
use Rattle.areas.proofs.Unnested.{Sixfold}
use Rattle.areas.proofs.Nested.{areas_sixfold}
use Rattle.areas.proofs.ValidFormed.{valid_formed}
use Rattle.ask_spans.specs.Time.{epoch, Uses}
use Rattle.ask_spans.specs.Spans.{Regular}
use Rattle.ask_spans.proofs.TimeLaws.{regular, last_epoch, shares_small}
use Rattle.ask.specs.Sun.{in_time, Serves}
use Rattle.ask.specs.Ask.{Question, Told, Served, question, Answers}
use Rattle.ask.proofs.AskLaws.{steady}
use Rattle.join.specs.Join.{header, joined, MayJoin}
use Rattle.join.proofs.JoinedFormed.{some_maps, joined_formed}
use Rattle.join.specs.Beside.{beside}
use Rattle.join.proofs.JoinedAreas.{joined_areas}
use Rattle.join_ask.proofs.Epochs.{moved, at_early, at_late, close_both, close_early, close_late, uses_late, uses_early, early_maps, penult}
use Rattle.join_ask.proofs.Values.{value_early, value_late}
use Rattle.join_ask.proofs.Parts.{with_grid, WithinWhole, asked_of_whole}

abbrev pub asking : MapSet → (kind method layer : ℕ) (lat lon : ℤ) (second : ℕ) → Question
asking m = question m.header m.texts (areas m)

-- ---- a formed map set is valid in its own lists
module _ (m : MapSet) (f : Formed m) where
  pub all_needed : areas m ≡ needed m.header (areas m)
  unfolding needed
  all_needed =
      let x = needs m f in
      let ms : take m.header.times.maps (areas m).marks ≡ (areas m).marks = take_all m.header.times.maps (areas m).marks (omega (arith, x.marks)) in
      sym (λ i. record {
        tec = take_all (values m.header) (areas m).tec (omega (arith, x.tec)) i;
        rms = (ap (λ s. take (value_need Rms m.header s) (areas m).rms) ms ∙ take_all (value_need Rms m.header (areas m).marks) (areas m).rms (omega (arith, x.rms))) i;
        height = (ap (λ s. take (value_need Height m.header s) (areas m).height) ms ∙ take_all (value_need Height m.header (areas m).marks) (areas m).height (omega (arith, x.height))) i;
        exponents = take_all (3 * blocks m.header) (areas m).exponents (omega (arith, x.exponents)) i;
        epochs = take_all m.header.times.maps (areas m).epochs (omega (arith, x.epochs)) i;
        marks = ms i;
      })

  pub formed_valid : Valid m.header m.texts (areas m)
  formed_valid = (valid_formed m.header m.texts (areas m)).1 (m, f, refl, refl, all_needed)

  pub formed_sound : Sound m.header m.texts (areas m)
  formed_sound = formed_valid.sound

-- ---- epochs
first_last : (h : Header) (es : List ℕ) → EpochRules h es → h.times.first ≤ h.times.last
first_last h [] r = absurd r
first_last h (e ∷ es) r = omega (arith, r.0, run_below h.times.interval h.times.last e es r.1)

first_is : (h : Header) (es : List ℕ) → EpochRules h es → epoch es 0 ≡ h.times.first
first_is h [] r = absurd r
first_is h (e ∷ es) r = r.0

runs : (h : Header) (es : List ℕ) → EpochRules h es → Runs h.times.interval h.times.last es
runs h [] r = r
runs h (e ∷ es) r = r.1

-- ---- both parts
module _ (a b : MapSet) (m : MayJoin a b) (kind method layer : ℕ) (lat lon : ℤ) (second : ℕ) where
  abbrev g : Grid
  g = b.header.grid

  abbrev na : ℕ
  na = a.header.times.maps

  abbrev nb : ℕ
  nb = b.header.times.maps

  -- the earlier lists, by the later grid
  abbrev by_grid : Grid → Areas
  by_grid g = areas_of na (layers g * rows g) (columns g) a.maps

  abbrev joint : Areas
  joint = beside na nb (layers g * rows g) (columns g) (by_grid g) (areas b)

  is_joint : areas (joined a b) ≡ joint
  is_joint = joined_areas a b m ∙ ap (λ x. beside na nb (layers g * rows g) (columns g) (by_grid x) (areas b)) m.alike.grid

  abbrev ca : List ℕ
  ca = map (λ t. t.epoch) a.maps.tec

  abbrev cb : List ℕ
  cb = map (λ t. t.epoch) b.maps.tec

  whole_sound : Sound (joined a b).header b.texts joint
  whole_sound = subst (Sound (joined a b).header b.texts) is_joint (formed_sound (joined a b) (joined_formed a b m))

  six_a : Sixfold na (layers g * rows g) (columns g) (by_grid g)
  six_a = areas_sixfold na (layers g * rows g) (columns g) a.maps (rw m.alike.grid at m.earlier.maps)

  six_b : Sixfold nb (layers g * rows g) (columns g) (areas b)
  six_b = areas_sixfold nb (layers g * rows g) (columns g) b.maps m.later.maps

  some_a : 1 ≤ na
  some_a = some_maps a m.earlier

  count_a : length ca ≡ na
  count_a = length-map a.maps.tec (λ t. t.epoch) ∙ m.earlier.maps.count

  count_b : length cb ≡ nb
  count_b = length-map b.maps.tec (λ t. t.epoch) ∙ m.later.maps.count

  la : length ca ≡ na - 1 + 1
  la = omega (arith, count_a, some_a)

  lb : 1 ≤ length cb
  lb = omega (arith, count_b, some_maps b m.later)

  last_a : epoch ca (na - 1) ≡ a.header.times.last
  last_a = last_epoch a.header.times.interval a.header.times.last ca (runs a.header ca m.earlier.epochs) (na - 1) (sym la)

  first_b : epoch cb 0 ≡ b.header.times.first
  first_b = first_is b.header cb m.later.epochs

  meets : epoch ca (na - 1) ≡ epoch cb 0
  meets = last_a ∙ m.meet ∙ sym first_b

  epochs_a : take na (by_grid g).epochs ≡ ca
  unfolding areas_of
  epochs_a = take_all na ca (omega (arith, count_a))

  epochs_b : take nb (areas b).epochs ≡ cb
  unfolding areas_of
  epochs_b = take_all nb cb (omega (arith, count_b))

  epochs_both : take (na - 1 + nb) joint.epochs ≡ take (na - 1) ca ++ cb
  unfolding areas_of beside
  epochs_both =
      take_all (na - 1 + nb) (take (na - 1) ca ++ cb)
      (omega (arith, length-append (take (na - 1) ca) cb, length-take-le (na - 1) ca (omega (arith, count_a)), count_b))

  reg : Regular (take (na - 1) ca ++ cb)
  reg = subst Regular epochs_both (steady (question (joined a b).header b.texts joint kind method layer lat lon second) whole_sound)

  early_first : a.header.times.first ≤ a.header.times.last
  early_first = first_last a.header ca m.earlier.epochs

  late_first : b.header.times.first ≤ b.header.times.last
  late_first = first_last b.header cb m.later.epochs

  -- ---- both are served, or the joined set is not
  abbrev a_asked : Question
  a_asked = asking a kind method layer lat lon second

  abbrev b_asked : Question
  b_asked = asking b kind method layer lat lon second

  served_a : Served a_asked → Serves method g.longitudes ca
  unfolding areas_of
  served_a s = subst (λ y. Serves method y.longitudes ca) m.alike.grid (subst (Serves method a.header.grid.longitudes) (take_all na ca (omega (arith, count_a))) s)

  a_served : Serves method g.longitudes ca → Served a_asked
  unfolding areas_of
  a_served s = subst (Serves method a.header.grid.longitudes) (sym (take_all na ca (omega (arith, count_a)))) (subst (λ y. Serves method y.longitudes ca) (sym m.alike.grid) s)

  serves_both : Serves method g.longitudes ca → Serves method g.longitudes cb → Serves method g.longitudes (take (na - 1) ca ++ cb)
  serves_both (inl h) t = inl h
  serves_both (inr s) (inl h) = inl h
  serves_both (inr s) (inr t) = inr (record { round = t.round; step = t.step; close = close_both (na - 1) ca cb la lb meets 7200 s.close t.close })

  both_serve : Serves method g.longitudes (take (na - 1) ca ++ cb) → Serves method g.longitudes ca × Serves method g.longitudes cb
  both_serve (inl h) = (inl h, inl h)
  both_serve (inr s) = (
    inr (record { round = s.round; step = s.step; close = close_early (na - 1) ca cb la lb meets 7200 s.close }),
    inr (record { round = s.round; step = s.step; close = close_late (na - 1) ca cb la lb meets 7200 s.close }),
  )

  abbrev j_asked : Question
  j_asked = question (joined a b).header b.texts joint kind method layer lat lon second

  served_whole : Served a_asked → Served b_asked → Served j_asked
  served_whole s t = subst (Serves method g.longitudes) (sym epochs_both) (serves_both (served_a s) (subst (Serves method g.longitudes) epochs_b t))

  -- 24 of the joined set is 24 of one of the two
  pub served_joined : Served (asking (joined a b) kind method layer lat lon second) ↔ (Served a_asked × Served b_asked)
  served_joined = (
    λ s.
        let t : Served j_asked = subst (λ z. Served (question (joined a b).header b.texts z kind method layer lat lon second)) is_joint s in
        let u = both_serve (subst (Serves method g.longitudes) epochs_both t) in (a_served u.0, subst (Serves method g.longitudes) (sym epochs_b) u.1),
    λ s. subst (λ z. Served (question (joined a b).header b.texts z kind method layer lat lon second)) (sym is_joint) (served_whole s.0 s.1),
  )

  module _ (sa : Served a_asked) (sb : Served b_asked) where
    late_whole : b.header.times.first ≤ second → WithinWhole g b.header (joined a b).header b.texts b.texts (areas b) joint kind method layer lat lon second nb (na - 1)
    late_whole from =
        record {
          sound = formed_sound b m.later;
          whole_sound = whole_sound;
          served = λ _. served_whole sa sb;
          served_back = λ _. sb;
          time = λ h. (omega (arith, early_first, m.meet, h.0), h.1);
          time_back = λ h. (from, h.1);
          same_epochs = λ i _. ap (λ es. epoch es i) epochs_b ∙ sym (at_late (na - 1) ca cb la lb meets i) ∙ ap (λ es. epoch es (na - 1 + i)) (sym epochs_both);
          uses = λ h s u.
              let v : Uses cb second (in_time method) s = subst (λ es. Uses es second (in_time method) s) epochs_b u in
              let w = shares_small cb (regular b.header.times.interval b.header.times.last cb (runs b.header cb m.later.epochs)) second (in_time method) v in (
                subst (λ es. Uses es second (in_time method) (moved (na - 1) s)) (sym epochs_both) (uses_late (na - 1) ca cb la lb meets reg second (in_time method) (omega (arith, first_b)) v),
                rw count_b at w.2,
                rw count_b at w.3,
              );
          agrees = λ _ inside w z. value_late na nb (layers g) (rows g) (columns g) (by_grid g) (areas b) six_a six_b some_a kind layer inside w z.row z.column z.map;
        }

    early_whole : 2 ≤ na → second ≤ epoch ca (na - 1 - 1) → WithinWhole g a.header (joined a b).header a.texts b.texts (by_grid g) joint kind method layer lat lon second (na - 1) 0
    early_whole two to =
        let some : 1 ≤ na - 1 = omega arith in
        record {
          sound = subst (λ y. Sound (with_grid y a.header) a.texts (by_grid y)) m.alike.grid (formed_sound a m.earlier);
          whole_sound = whole_sound;
          served = λ _. served_whole sa sb;
          served_back = λ _. subst (Serves method g.longitudes) (sym epochs_a) (served_a sa);
          time = λ h. (h.0, omega (arith, late_first, m.meet, h.1));
          time_back = λ h. (h.0, omega (arith, penult (na - 1) ca cb la lb meets reg second (in_time method) some to, last_a));
          same_epochs = λ i h. let o : i ≡ 0 + i = omega arith in
              ap (λ es. epoch es i) epochs_a ∙ sym (at_early (na - 1) ca cb la lb meets i (omega arith)) ∙ ap (λ es. epoch es i) (sym epochs_both) ∙ ap (epoch (take (na - 1 + nb) joint.epochs)) o;
          uses = λ h s u.
              let v : Uses ca second (in_time method) s = subst (λ es. Uses es second (in_time method) s) epochs_a u in
              let o : s.map ≡ 0 + s.map = omega arith in
              let w = early_maps (na - 1) ca cb la lb meets reg second (in_time method) some to v in (
                subst (λ i. Uses (take (na - 1 + nb) joint.epochs) second (in_time method) (record { map = i; early = s.early; late = s.late })) o
                    (subst (λ es. Uses es second (in_time method) s) (sym epochs_both) (uses_early (na - 1) ca cb la lb meets reg second (in_time method) some to v)),
                w.0,
                w.1,
              );
          agrees = λ _ inside w z. value_early na nb (layers g) (rows g) (columns g) (by_grid g) (areas b) six_a six_b some_a kind layer inside w z.row z.column z.map;
        }

    -- ---- the theorems, where neither set gives 24 (methods 0 and 1 never do)
    pub ask_late : b.header.times.first ≤ second → (r : Told) → Answers b_asked r → Answers (asking (joined a b) kind method layer lat lon second) r
    ask_late from r x =
        subst (λ z. Answers (question (joined a b).header b.texts z kind method layer lat lon second) r) (sym is_joint)
        (asked_of_whole g b.header (joined a b).header b.texts b.texts (areas b) joint kind method layer lat lon second nb (na - 1) (late_whole from) r x)

    pub ask_early : 2 ≤ na → second ≤ epoch ca (na - 1 - 1) → (r : Told) → Answers a_asked r → Answers (asking (joined a b) kind method layer lat lon second) r
    ask_early two to r x =
        subst (λ z. Answers (question (joined a b).header b.texts z kind method layer lat lon second) r) (sym is_joint)
        (asked_of_whole g a.header (joined a b).header a.texts b.texts (by_grid g) joint kind method layer lat lon second (na - 1) 0 (early_whole two to) r
        (subst (λ y. Answers (question (with_grid y a.header) a.texts (by_grid y) kind method layer lat lon second) r) m.alike.grid x))
