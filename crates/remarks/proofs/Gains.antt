use Rattle.std.specs.Prelude.{Result, Ok, Err}
-- What the second scan brings for an index from each state of the reading on: what each row that is taken adds, and that a remark's row adds nothing.
use mathlib.Core.Path.{◌≡◌, refl, sym, ap, ◌∙◌}
use mathlib.Core.Option.{Option, none, some}
use mathlib.Core.List.{List, [], ◌∷◌, ◌++◌}
use Prim.Native.Nat.{ℕ, zero, suc, ◌-◌}
use native.Mathlib.Omega.{arith}
use native.Mathlib.Decide.{ℕ_discrete}
use lib.IntN.{ℤ, negsuc}
use lib.ListN.{get_or, set, drop}
use Rattle.kit.specs.Answer.{Answer, ok, refused, same}
use Rattle.kit.proofs.AnswerLaws.{pick_yes, pick_no, Yields, y_ok, y_no, need_yields, get_yields, bind_yields, amap_yields, pick_yields, yields_map}
use Rattle.mapset.specs.declared.Kind.{Kind}
use Rattle.mapset.specs.declared.Kind.TheVariants.{Tec, Rms, Height}
use Rattle.mapset.specs.declared.Version.{Version}
use Rattle.mapset.specs.declared.Header.{Header}
use Rattle.mapset.specs.Header.{Said}
use Rattle.mapset.specs.Grid.{columns}
use Rattle.layout.specs.Labels.{Label, version, description, comment, system, exponent, aux_start, aux_end, header_end, epoch, block, file_end, head, start, end, name, labels, letters}
use Rattle.layout.specs.Layout.{Force, Slots, Lines, Mode, plain, aux}
use Rattle.reading.specs.declared.Fault.{Fault}
use Rattle.reading.specs.Feed.{fault}
use Rattle.reading.specs.Fields.{lookup, label, fields, cells}
use Rattle.reading.specs.Maps.{Next, on_date, loose, on_comment, on_exponent, start_tec, start_other, start_map, on_start, end_map, on_end as on_map_end, epoch_tec, epoch_other, on_epoch, open_block, on_block, on_file, taken, step, on_row, date}
use Rattle.reading.specs.Head.{Turn, more, done, place, once, on_description, on_system, on_end, at_head, head_step}
use Rattle.reading.specs.Read.{nothing_yet, version_of}
use Rattle.reading.proofs.RecordLaws.{known_maps, lookup_ok}
use Rattle.reading.proofs.Machine.{State, first, header, maps, Out, turn, Move, on_row_of}
use Rattle.reading.specs.declared.Place.{Place}
use Rattle.reading.specs.declared.Place.TheVariants.{Ended, Between, Early, Inside}
use Rattle.areas.specs.Events as event
use Rattle.areas.specs.Events.{Event}
use Rattle.areas.specs.Scan as scan
use Rattle.areas.specs.Scan.{Now, now, at_first, or_else, by_label, exponent_in, values_ahead, brought}
use Rattle.areas.proofs.ScanRows.{known_version}
use Rattle.index.specs.Made.{Placed, just_rows, opened, maps_of}
use Rattle.remarks.proofs.Rows.{comment_word, label_is, not_end, no_values, InAux}

-- events, where blocks open, and the values that come first
pub record Gain : Type 0 where
  pub events : List Event
  pub starts : List ℕ
  pub values : List ℤ

-- what the scan keeps: the exponent in force in the header, its own state in the maps
abbrev pub Past : State → Type 0
Past first = ℤ
Past (header c a z got ds) = ℤ
Past (maps h q p c) = Now

any : {W A : Type 0} {Q : A → Type 0} (x : Answer W A) → ((y : A) → Q y) → Yields Q x
any (ok y) f = y_ok (f y)
any (refused w) f = y_no

no_values_due : (rs : List (List ℕ)) → [] ≡ values_ahead 0 rs
no_values_due [] = refl
no_values_due (r ∷ rs) = refl

-- ---- no values come first behind a row of the maps that opens no block

abbrev Undue : (q : Place) → Next q → Type 0
Undue q x = x.due ≡ 0

loose_undue : (q : Place) {x : Answer Fault (Next q)} → Yields (Undue q) x → Yields (Undue q) (loose q x)
unfolding loose
loose_undue Ended y = y_no
loose_undue Between y = y
loose_undue Early y = y
loose_undue (Inside o) y = y

date_undue : (q : Place) (t : Result ℕ ℕ) {f : ℕ → Answer Fault (Next q)} → ((n : ℕ) → Yields (Undue q) (f n)) → Yields (Undue q) (on_date t f)
unfolding on_date
date_undue q (Ok n) y = y n
date_undue q (Err c) y = y_no

module _ (h : Header) (p : Force) (r : List ℕ) where
  comment_undue : (q : Place) → Yields (Undue q) (on_comment q p r)
  unfolding on_comment
  comment_undue q = loose_undue q (bind_yields (fields comment r) (λ v _. y_ok refl))

  exponent_undue : (q : Place) → Yields (Undue q) (on_exponent q p r)
  unfolding on_exponent
  exponent_undue q = loose_undue q (bind_yields (fields exponent r) (λ v _. need_yields _ _ (λ _. y_ok refl)))

  start_undue : (q : Place) (k : Kind) → Yields (Undue q) (on_start h q p k r)
  unfolding on_start start_map start_tec start_other
  start_undue Ended k = y_no
  start_undue Between Tec = bind_yields (fields (start Tec) r) (λ v _. need_yields _ _ (λ _. y_ok refl))
  start_undue Between Rms = bind_yields (fields (start Rms) r) (λ v _. need_yields _ _ (λ _. y_ok refl))
  start_undue Between Height = bind_yields (fields (start Height) r) (λ v _. need_yields _ _ (λ _. y_ok refl))
  start_undue Early k = y_no
  start_undue (Inside o) k = y_no

  end_undue : (q : Place) (k : Kind) → Yields (Undue q) (on_map_end h q p k r)
  unfolding on_map_end end_map
  end_undue Ended k = y_no
  end_undue Between k = y_no
  end_undue Early k = need_yields _ _ (λ _. bind_yields (fields (end k) r) (λ v _. y_no))
  end_undue (Inside o) k = need_yields _ _ (λ _. bind_yields (fields (end k) r) (λ v _. need_yields _ _ (λ _. need_yields _ _ (λ _. y_ok refl))))

  epoch_undue : (q : Place) → Yields (Undue q) (on_epoch h q p r)
  unfolding on_epoch epoch_tec epoch_other
  epoch_undue Ended = y_no
  epoch_undue Between = y_no
  epoch_undue Early = bind_yields (fields epoch r) (λ d _. date_undue Early (date d) (λ t. need_yields _ _ (λ _. y_ok refl)))
  epoch_undue (Inside o) = need_yields _ _ (λ _. bind_yields (fields epoch r) (λ d _. date_undue (Inside o) (date d) (λ t. need_yields _ _ (λ _. y_ok refl))))

  file_undue : (q : Place) → Yields (Undue q) (on_file h q p r)
  unfolding on_file
  file_undue Ended = y_no
  file_undue Between = bind_yields (fields file_end r) (λ v _. need_yields _ _ (λ _. y_ok refl))
  file_undue Early = y_no
  file_undue (Inside o) = y_no

  -- and a row of values behind one that does
  block_due : (q : Place) → Yields (λ (x : Next q). x.due ≡ columns h.grid) (on_block h q p r)
  unfolding on_block open_block
  block_due Ended = y_no
  block_due Between = y_no
  block_due Early = y_no
  block_due (Inside o) =
      need_yields _ _ (λ _. bind_yields (fields block r) (λ v _.
      need_yields _ _ (λ _. need_yields _ _ (λ _. need_yields _ _ (λ _. need_yields _ _ (λ _. need_yields _ _ (λ _. y_ok refl)))))))

start_goes : (s : Now) (k : Kind) (r : List ℕ) → scan.on_start s k r ≡ scan.goes (scan.on_start s k r).events (scan.on_start s k r).next
start_goes s Tec r = refl
start_goes s Rms r = refl
start_goes s Height r = refl

epoch_goes : (s : Now) (k : Kind) (r : List ℕ) → scan.on_epoch s k r ≡ scan.goes (scan.on_epoch s k r).events (scan.on_epoch s k r).next
epoch_goes s Tec r = refl
epoch_goes s Rms r = refl
epoch_goes s Height r = refl

-- ---- from a state on, with C values to a block
module _ (C : ℕ) where
  abbrev in_maps : Now → ℕ → Placed → Gain
  in_maps s c ps = record { events = brought C s c (just_rows ps); starts = opened C c ps; values = values_ahead c (just_rows ps) }

  abbrev behind : ℤ × Placed → Gain
  behind x = in_maps (at_first x.0) 0 x.1

  abbrev pub gained : (s : State) → Past s → Placed → Gain
  gained first e ps = behind (maps_of plain e ps)
  gained (header c a z got ds) e ps = behind (maps_of a e ps)
  gained (maps h q p c) s ps = in_maps s c ps

  -- what is read has C columns
  abbrev pub Wide : (s : State) → Out s → Type 0
  Wide first m = columns m.header.grid ≡ C
  Wide (header c a z got ds) m = columns m.header.grid ≡ C
  Wide (maps h q p c) w = columns h.grid ≡ C

  -- what the row r, whose line starts at a, adds to what comes behind it
  pub record Adds (s : State) (e : Past s) (m : Move s) (a : ℕ) (r : List ℕ) : Type 0 where
    pub past : Past m.to
    pub gain : Gain → Gain
    pub brings : (x : Out m.to) → Wide s (m.back x) → (ps : Placed) → gained s e ((a, r) ∷ ps) ≡ gain (gained m.to past ps)
    pub wide : (x : Out m.to) → Wide s (m.back x) → Wide m.to x

  module _ (a : ℕ) (r : List ℕ) where
    -- ---- in the header
    abbrev by : ℤ → Placed → Option Label → ℤ × Placed
    by e ps o = by_label (e, ps) (maps_of plain (exponent_in r) ps) (maps_of aux e ps) (maps_of plain e ps) o

    labelled_as : (e : ℤ) (l : Label) → label r ≡ some l → (ps : Placed) → maps_of plain e ((a, r) ∷ ps) ≡ by e ps (some l)
    unfolding maps_of
    labelled_as e l q ps = ap (by e ps) q

    version_adds : (e : ℤ) → Yields (λ c. Adds first e (record { to = header c plain (negsuc 0) nothing_yet []; back = λ m. m }) a r) (version_of r)
    unfolding version_of label
    version_adds e =
        need_yields (same (drop 60 r) (name version)) (fault 3 61)
        (λ q. any _ (λ c. record { past = e; gain = λ g. g; brings = λ x w ps. ap behind (labelled_as e version (ap (λ s. lookup s labels) q ∙ known_version) ps); wide = λ x w. w }))

    module _ (c : Version) (z : ℤ) (got : Slots) (ds : Lines) (e : ℤ) where
      abbrev Turns : Turn → Type 0
      Turns t = Adds (header c plain z got ds) e (turn c plain z got ds t) a r

      goes_on : (b : Mode) (z' : ℤ) (got' : Slots) (ds' : Lines) (e' : ℤ) → ((ps : Placed) → maps_of plain e ((a, r) ∷ ps) ≡ maps_of b e' ps) → Turns (more b z' got' ds')
      goes_on b z' got' ds' e' f = record { past = e'; gain = λ g. g; brings = λ x w ps. ap behind (f ps); wide = λ x w. w }

      once_adds : (i : ℕ) (x : Answer Fault Said) → ((ps : Placed) → maps_of plain e ((a, r) ∷ ps) ≡ maps_of plain e ps) → Yields Turns (once z got ds i x)
      unfolding once
      once_adds i x f = need_yields _ _ (λ _. bind_yields x (λ s _. y_ok (goes_on plain z (set got i (some s)) ds e f)))

      system_adds : (o : Option ℕ) → ((ps : Placed) → maps_of plain e ((a, r) ∷ ps) ≡ maps_of plain e ps) → Yields Turns (on_system z got ds r o)
      unfolding on_system
      system_adds none f = bind_yields (fields system r) (λ v _. y_no)
      system_adds (some j) f = once_adds _ _ f

      head_adds : (l : Label) → label r ≡ some l → Yields Turns (at_head c z got ds l r)
      unfolding at_head on_description on_end
      head_adds description q = need_yields _ _ (λ _. bind_yields (fields description r) (λ v _. y_ok (goes_on plain z got (ds ++ (v.0 ∷ [])) e (labelled_as e description q))))
      head_adds comment q = bind_yields (fields comment r) (λ v _. y_ok (goes_on plain z got ds e (labelled_as e comment q)))
      head_adds exponent q = bind_yields (fields exponent r) (λ v _. need_yields _ _ (λ _. y_ok (goes_on plain v.0 got ds (exponent_in r) (labelled_as e exponent q))))
      head_adds (head i) q = once_adds i _ (labelled_as e (head i) q)
      head_adds system q = system_adds (place ℕ_discrete (get_or r 5 32) letters) (labelled_as e system q)
      head_adds aux_start q = bind_yields (fields aux_start r) (λ v _. y_ok (goes_on aux z got ds e (labelled_as e aux_start q)))
      head_adds header_end q =
          bind_yields (fields header_end r) (λ v _. need_yields _ _ (λ _. need_yields _ _ (λ _. need_yields _ _ (λ _.
          y_ok (record { past = at_first e; gain = λ g. g; brings = λ x w ps. ap behind (labelled_as e header_end q ps); wide = λ x w. w })))))
      head_adds version q = y_no
      head_adds aux_end q = y_no
      head_adds (start k) q = y_no
      head_adds (end k) q = y_no
      head_adds epoch q = y_no
      head_adds block q = y_no
      head_adds file_end q = y_no

      aux_adds : Yields (λ t. Adds (header c aux z got ds) e (turn c aux z got ds t) a r) (head_step c aux z got ds r)
      unfolding head_step maps_of
      aux_adds =
          pick_yields (same (drop 60 r) (name aux_end))
          (λ q. bind_yields (fields aux_end r) (λ v _. y_ok (record { past = e; gain = λ g. g; brings = λ x w ps. ap behind (pick_yes (same (drop 60 r) (name aux_end)) _ _ q); wide = λ x w. w })))
          (λ n. y_ok (record { past = e; gain = λ g. g; brings = λ x w ps. ap behind (pick_no (same (drop 60 r) (name aux_end)) _ _ n); wide = λ x w. w }))

    -- ---- in the maps
    module _ (h : Header) (q : Place) (p : Force) (s : Now) where
      abbrev moved : Next q → Move (maps h q p 0)
      moved x = record { to = maps h x.to x.force x.due; back = λ w. ([], x.back w.0 w.1) }

      turned : (l : Label) → label r ≡ some l → (rs : List (List ℕ))
          → brought C s 0 (r ∷ rs) ≡ (scan.turn C s (some l) r rs).events ++ brought C (scan.turn C s (some l) r rs).next (scan.turn C s (some l) r rs).due rs
      unfolding brought
      turned l e rs = ap (λ (o : Option Label). (scan.turn C s o r rs).events ++ brought C (scan.turn C s o r rs).next (scan.turn C s o r rs).due rs) e

      -- no block opens
      shut : (l : Label) → label r ≡ some l → ¬ (l ≡ block) → (ps : Placed) → opened C 0 ((a, r) ∷ ps) ≡ opened C 0 ps
      unfolding opened label
      shut l e n ps =
          pick_no (same (drop 60 r) (name block)) _ _
          (λ d. n (let z : ◌≡◌ {A = Option Label} (some l) (some block) = sym e ∙ (ap (λ x. lookup x labels) d ∙ known_maps.3) in cc))

      other_adds : (l : Label) → label r ≡ some l → ¬ (l ≡ block) → (es : List Event) (s' : Now) → ((rs : List (List ℕ)) → scan.turn C s (some l) r rs ≡ scan.goes es s')
          → (x : Next q) → x.due ≡ 0 → Adds (maps h q p 0) s (moved x) a r
      other_adds l e n es s' t x d =
          record {
            past = s';
            gain = λ g. record { events = es ++ g.events; starts = g.starts; values = [] };
            brings = λ y w ps.
                let rs : List (List ℕ) = just_rows ps in
                let v : brought C s 0 (r ∷ rs) ≡ es ++ brought C s' 0 rs = turned l e rs ∙ ap (λ (u : scan.Turn). u.events ++ brought C u.next u.due rs) (t rs) in
                (λ i. record { events = v i; starts = shut l e n ps i; values = [] })
                ∙ ap (λ (c : ℕ). record { events = es ++ brought C s' c rs; starts = opened C c ps; values = [] }) (sym d);
            wide = λ y w. w;
          }

      -- the block's values are the first of what comes behind its opening
      block_adds : label r ≡ some block → (x : Next q) → x.due ≡ columns h.grid → Adds (maps h q p 0) s (moved x) a r
      unfolding opened label
      block_adds e x d =
          let s' : Now = now s.kind s.number (suc s.done) s.exponent s.tecs in
          let f : Gain → Gain =
          λ g. record { events = event.block s.kind s.number s.done (record { exponent = s.exponent; values = g.values }) ∷ g.events; starts = a ∷ g.starts; values = [] } in
          record {
            past = s';
            gain = f;
            brings = λ y w ps.
                let o : opened C 0 ((a, r) ∷ ps) ≡ a ∷ opened C C ps = pick_yes (same (drop 60 r) (name block)) _ _ (lookup_ok (drop 60 r) labels block e) in
                let v = turned block e (just_rows ps) in
                (λ i. record { events = v i; starts = o i; values = [] }) ∙ ap (λ (c : ℕ). f (in_maps s' c ps)) (sym (d ∙ w));
            wide = λ y w. w;
          }

      step_adds : (l : Label) → label r ≡ some l → Yields (λ x. Adds (maps h q p 0) s (moved x) a r) (taken h q p l r)
      unfolding taken
      step_adds comment e = yields_map (other_adds comment e (λ z. let y : ◌≡◌ {A = ℕ} 0 1 = cc in omega arith) [] s (λ rs. refl)) (comment_undue h p r q)
      step_adds exponent e =
          yields_map (other_adds exponent e (λ z. let y : ◌≡◌ {A = ℕ} 0 1 = cc in omega arith) [] (now s.kind s.number s.done (exponent_in r) s.tecs) (λ rs. refl)) (exponent_undue h p r q)
      step_adds (start k) e = yields_map (other_adds (start k) e (λ z. let y : ◌≡◌ {A = ℕ} 0 1 = cc in omega arith) _ _ (λ rs. start_goes s k r)) (start_undue h p r q k)
      step_adds (end k) e = yields_map (other_adds (end k) e (λ z. let y : ◌≡◌ {A = ℕ} 0 1 = cc in omega arith) [] s (λ rs. refl)) (end_undue h p r q k)
      step_adds epoch e = yields_map (other_adds epoch e (λ z. let y : ◌≡◌ {A = ℕ} 0 1 = cc in omega arith) _ _ (λ rs. epoch_goes s s.kind r)) (epoch_undue h p r q)
      step_adds block e = yields_map (block_adds e) (block_due h p r q)
      step_adds file_end e = yields_map (other_adds file_end e (λ z. let y : ◌≡◌ {A = ℕ} 0 1 = cc in omega arith) [] s (λ rs. refl)) (file_undue h p r q)
      step_adds version e = y_no
      step_adds description e = y_no
      step_adds system e = y_no
      step_adds aux_start e = y_no
      step_adds aux_end e = y_no
      step_adds header_end e = y_no
      step_adds (head i) e = y_no

    values_adds : (h : Header) (q : Place) (p : Force) (c : ℕ) (s : Now)
        → Yields (λ zs. Adds (maps h q p (suc c)) s (record { to = maps h q p (suc c - 16); back = λ w. (zs ++ w.0, w.1) }) a r) (cells 1 (on_row (suc c)) r)
    unfolding brought opened
    values_adds h q p c s =
        any _ (λ zs. record {
          past = s;
          gain = λ g. record { events = g.events; starts = g.starts; values = or_else (cells 1 (on_row (suc c)) r) [] ++ g.values };
          brings = λ x w ps. refl;
          wide = λ x w. w;
        })

  -- every row that is taken
  pub row_adds : (s : State) (e : Past s) (a : ℕ) (r : List ℕ) → Yields (λ m. Adds s e m a r) (on_row_of s r)
  unfolding on_row_of head_step step
  row_adds first e a r = amap_yields _ (version_adds a r e)
  row_adds (header c plain z got ds) e a r = amap_yields _ (get_yields (label r) (fault 4 61) (λ l q. head_adds a r c z got ds e l q))
  row_adds (header c aux z got ds) e a r = amap_yields _ (aux_adds a r c z got ds e)
  row_adds (maps h q p zero) e a r = amap_yields _ (get_yields (label r) (fault 4 61) (λ l d. step_adds a r h q p e l d))
  row_adds (maps h q p (suc c)) e a r = amap_yields _ (values_adds a r h q p c e)

  -- ---- a remark's row adds nothing: a COMMENT that is taken
  pub comment_adds : (s : State) (e : Past s) (a : ℕ) (r : List ℕ) → drop 60 r ≡ name comment → Yields (λ (m : Move s). (ps : Placed) → gained s e ((a, r) ∷ ps) ≡ gained s e ps) (on_row_of s r)
  unfolding on_row_of
  comment_adds first e a r q = any _ (λ m ps. ap behind (labelled_as a r e comment (label_is comment_word r q) ps))
  comment_adds (header c plain z got ds) e a r q = any _ (λ m ps. ap behind (labelled_as a r e comment (label_is comment_word r q) ps))
  comment_adds (header c aux z got ds) e a r q = any _ (λ m ps. ap behind (unfold maps_of in pick_no (same (drop 60 r) (name aux_end)) _ _ (not_end comment_word r q)))
  comment_adds (maps h q p zero) e a r d =
      any _ (λ m ps.
      let l = label_is comment_word r d in
      let v = turned a r h q p e comment l (just_rows ps) in
      let o = shut a r h q p e comment l (λ z. let y : ◌≡◌ {A = ℕ} 0 1 = cc in omega arith) ps in
      λ i. record { events = v i; starts = o i; values = no_values_due (just_rows ps) i })
  comment_adds (maps h q p (suc c)) e a r d = amap_yields _ (yields_map (λ zs z. absurd z) (no_values comment_word r d (on_row (suc c))))

  -- and inside an aux block every row but its end
  pub inside_adds : (s : State) (e : Past s) (a : ℕ) (r : List ℕ) → InAux s → ¬ (drop 60 r ≡ name aux_end) → (ps : Placed) → gained s e ((a, r) ∷ ps) ≡ gained s e ps
  unfolding maps_of
  inside_adds first e a r i n ps = absurd i
  inside_adds (header c plain z got ds) e a r i n ps = absurd i
  inside_adds (header c aux z got ds) e a r i n ps = ap behind (pick_no (same (drop 60 r) (name aux_end)) _ _ n)
  inside_adds (maps h q p c) e a r i n ps = absurd i
