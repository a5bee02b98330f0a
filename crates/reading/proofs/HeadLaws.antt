-- The header: what the rules write is read, and what is read the rules write.
use mathlib.Core.Path.{◌≡◌, refl, sym, ap, ap₂, ◌∙◌}
use mathlib.Core.Option.{Option, none, some}
use mathlib.Core.List.{List, [], ◌∷◌, ◌++◌, append_assoc, append-nil}
use Prim.Native.Nat.{ℕ, suc, ◌+◌, ◌<◌}
use native.Mathlib.Omega.{arith}
use native.Mathlib.Decide.{ℕ_discrete}
use lib.ListN.{length, get_or, set, drop, length-set, length-append}
use lib.IntN.{ℤ, pos, nat_abs, negsuc}
use Rattle.kit.specs.Answer.{ok, bind, amap, get, pick, same}
use Rattle.kit.proofs.AnswerLaws.{need_yes, pick_yes, pick_no, pick_elim, pick_yields, Yields, y_ok, y_no, yields, need_yields, get_yields, bind_yields, amap_yields, yields_map}
use Rattle.kit.proofs.ListLaws.{below, all_append}
use Rattle.kit.specs.Range.{Natural, Printable}
use Rattle.calendar.proofs.DateLaws.{dated_below}
use Rattle.mapset.specs.declared.Version.{Version}
use Rattle.mapset.specs.declared.Header.{Header}
use Rattle.mapset.specs.Described.{most_lines, line_width, FullTexts}
use Rattle.mapset.proofs.DescribedLaws.{lines_length, lines_described, described_rules}
use Rattle.mapset.specs.Grid.{Limits}
use Rattle.mapset.specs.Header.{Content, count, tenths, epoch as an_epoch, axis, program, mapping, observables, system as a_system, starred, Said, number, counts, Accepts, a_count, a_tenths, a_epoch, a_axis, a_program, a_mapping, a_observables, a_system as accepts_system, says, Fillers, Dimension, Written, DescriptionRules}
use Rattle.mapset.specs.MapSet.{MapSet, Maps}
use Rattle.layout.specs.Records.{Vals, Fields, f_blank, f_text}
use Rattle.layout.specs.Labels.{Label, version, description, comment, system, exponent, aux_start, aux_end, header_end, epoch, block, file_end, head, start, end, name, items, content, layout, letters, Rec, rec}
use Rattle.layout.specs.Layout.{maps, Slots, Lines, Shows, s_count, s_tenths, s_epoch, s_axis, s_program, s_mapping, s_observables, Mode, plain, aux, Heads, h_description, h_comment, h_exponent, h_field, h_system, h_aux, h_skip, h_back, h_end, begins}
use Rattle.reading.specs.declared.Why.{Why}
use Rattle.reading.specs.Feed.{on_line, Feed, over, bad, row}
use Rattle.reading.specs.Fields.{label, fields}
use Rattle.reading.specs.Maps.{short, run}
use Rattle.mapset.specs.Said.{axis_of}
use Rattle.reading.specs.Head.{meant, next, place, Complete, made, made_texts, Turn, more, done, once, on_description, on_system, on_end, at_head, head_step, heading, Got}
use Rattle.reading.proofs.LineLaws.{Carries, c_row, Sized}
use Rattle.reading.proofs.RecordLaws.{known_head, known_heads, known_maps, rec_label, rec_name, rec_fields, named_rec, row_rec, label_head, AllWritten, rec_written}
use Rattle.reading.proofs.MapLaws.{on_date_of, on_date_yields, on_line_yields, runs, Wrote, wrote_rows, written}
use Rattle.reading.proofs.SlotLaws.{Joined, taken, full, untaken, rest_none, fit_set, lines_left, made_says, texts_says, complete_says, says_made, made_filled, system_content}
use Rattle.reading.specs.declared.Place.TheVariants.{Between}

-- ---- a place in a list

pub place_ok : {A : Type 0} (d : (x y : A) → Dec (x ≡ y)) (x dflt : A) (l : List A) (i : ℕ) → place d x l ≡ some i → (i < length l) × (get_or l i dflt ≡ x)
unfolding place
place_ok d x dflt [] i e = let z : ◌≡◌ {A = ℕ} 0 1 = cc in absurd (omega arith)
place_ok d x dflt (y ∷ l) i e =
    pick_elim (λ o. o ≡ some i → (i < length (y ∷ l)) × (get_or (y ∷ l) i dflt ≡ x)) (d x y)
    (λ p q. let z : 0 ≡ i = cc in rw (← z) (omega arith, sym p))
    (λ _ q. by (place d x l) (λ j p. place_ok d x dflt l j p) q) e
  where
    by : (o : Option ℕ) → ((j : ℕ) → o ≡ some j → (j < length l) × (get_or l j dflt ≡ x)) → next o ≡ some i → (i < length (y ∷ l)) × (get_or (y ∷ l) i dflt ≡ x)
    by none p q = let z : ◌≡◌ {A = ℕ} 0 1 = cc in absurd (omega arith)
    by (some j) p q = let z : suc j ≡ i = cc in let r = p j refl in rw (← z) (omega (arith, r.0), r.1)

-- ---- what is meant is shown

meant_of : (k : Content) (v : Vals (items k)) (s : Said) → Shows k v s → Accepts k s → meant k v ≡ ok s
unfolding meant
meant_of (count low high) v s s_count (a_count w) = need_yes _ _ _ w
meant_of (tenths low high) v s s_tenths (a_tenths w) = need_yes _ _ _ w
meant_of an_epoch v s (s_epoch u) (a_epoch w) = on_date_of v _ u
meant_of (axis l) v s s_axis (a_axis w) = need_yes _ _ _ w.first ∙ need_yes _ _ _ w.last ∙ need_yes _ _ _ w.step ∙ need_yes _ _ _ w.together
meant_of program v s s_program (a_program a b c) = refl
meant_of mapping v s s_mapping (a_mapping a) = refl
meant_of observables v s s_observables (a_observables a) = refl
meant_of a_system v s x'' _ = elim x'' [ ]

-- the counts of a system
system_of : (l : List ℕ) (a b : ℕ) → Accepts a_system (counts a b) → meant a_system (l, (pos a, (pos b, tt))) ≡ ok (counts a b)
unfolding meant
system_of l a b (accepts_system u v) = need_yes _ _ _ u ∙ need_yes _ _ _ v

natural_count : {low high : ℕ} (z : ℤ) → Natural low high z → Shows (count low high) (z, tt) (number (nat_abs z)) × Accepts (count low high) (number (nat_abs z))
natural_count (pos n) u = (s_count, a_count u)
natural_count {low = low} {high = high} (negsuc _) u = elim u [ ]

natural_tenths : {low high : ℕ} (z : ℤ) → Natural low high z → Shows (tenths low high) (z, tt) (number (nat_abs z)) × Accepts (tenths low high) (number (nat_abs z))
natural_tenths (pos n) u = (s_tenths, a_tenths u)
natural_tenths {low = low} {high = high} (negsuc _) u = elim u [ ]

-- what a record may mean that is no system
meant_yields : (k : Content) (v : Vals (items k)) → ¬ (k ≡ a_system) → AllWritten (items k) v → Yields (λ s. Shows k v s × Accepts k s) (meant k v)
unfolding meant
meant_yields (count low high) v n a = need_yields _ _ (λ u. y_ok (natural_count v.0 u))
meant_yields (tenths low high) v n a = need_yields _ _ (λ u. y_ok (natural_tenths v.0 u))
meant_yields an_epoch v n a = on_date_yields v (λ t u. y_ok (s_epoch u, a_epoch (dated_below v.0 v.1.0 v.1.1.0 v.1.1.1.0 v.1.1.1.1.0 v.1.1.1.1.1.0 t u)))
meant_yields (axis l) v n a =
    need_yields _ _ (λ p. need_yields _ _ (λ q. need_yields _ _ (λ r. need_yields _ _ (λ s. y_ok (s_axis {a = axis_of v.0 v.1.0 v.1.1.0}, a_axis (record { first = p; last = q; step = r; together = s }))))))
meant_yields program v n a = y_ok (s_program, a_program a.0 a.1.0 a.1.1.0)
meant_yields mapping v n a = y_ok (s_mapping, a_mapping a.0)
meant_yields observables v n a = y_ok (s_observables, a_observables a.0)
meant_yields a_system v n a = absurd (n refl)

system_yields : (v : Vals (items a_system)) → Yields (λ s. (m : ℕ) × (n : ℕ) × (s ≡ counts m n) × (v ≡ (v.0, (pos m, (pos n, tt)))) × Accepts a_system (counts m n)) (meant a_system v)
unfolding meant
system_yields v = need_yields _ _ (λ p. need_yields _ _ (λ q. y_ok (by v.0 v.1.0 v.1.1.0 p q)))
  where
    by : (l : List ℕ) (a b : ℤ) → Natural 0 999999 a → Natural 0 999999 b
        → (m : ℕ) × (n : ℕ) × (counts (nat_abs a) (nat_abs b) ≡ counts m n) × (◌≡◌ {A = Vals (items a_system)} (l, (a, (b, tt))) (l, (pos m, (pos n, tt)))) × Accepts a_system (counts m n)
    by l (pos m) (pos n) p q = (m, n, refl, refl, accepts_system p q)
    by l (pos m) (negsuc _) p q = elim q [ ]
    by l (negsuc _) b p q = elim p [ ]

-- ---- the letter of a system stands in column 6

only_one : (bs : List ℕ) → length bs ≡ 1 → bs ≡ get_or bs 0 32 ∷ []
only_one [] e = absurd (omega arith)
only_one (b ∷ []) e = refl
only_one (b ∷ c ∷ bs) e = absurd (omega arith)

first_of : (b : ℕ) (bs rest : List ℕ) → bs ≡ b ∷ [] → get_or (bs ++ rest) 0 32 ≡ b
first_of b bs rest e = rw e

letter_in : {v : Vals (items a_system)} {fs : List ℕ} (n : List ℕ) → Fields (items a_system) v fs → v.0 ≡ get_or (fs ++ n) 5 32 ∷ []
letter_in n (f_blank (f_text bs {rest = rest} e h)) =
    let q = only_one bs e in
    q ∙ ap (λ b. b ∷ []) (sym (ap (λ l. get_or l 0 32) (append_assoc bs rest n) ∙ first_of (get_or bs 0 32) bs (rest ++ n) q))

system_letter : {v : Vals (layout system)} {r : List ℕ} → Rec system v r → v.0 ≡ get_or r 5 32 ∷ []
system_letter (rec h) = letter_in (name system) h

place_letter : (j : ℕ) → j < 7 → place ℕ_discrete (get_or letters j 0) letters ≡ some j
unfolding place pick ℕ_discrete
place_letter j h = below (λ j. place ℕ_discrete (get_or letters j 0) letters ≡ some j) 7 (refl, (refl, (refl, (refl, (refl, (refl, (refl, tt))))))) j h

-- ---- what the rules write is read

abbrev pub Joins : MapSet → Slots → Slots → Type 0
Joins m got left = Joined got left (says m.header m.texts)

-- the DESCRIPTION lines that were got, and then those that are left
abbrev LinesOf : MapSet → Lines → Lines → Type 0
LinesOf m ds ls = ds ++ ls ≡ lines_left m.header m.texts

once_of : (e : ℤ) (got : Slots) (ds : Lines) (i : ℕ) (s : Said) → get_or got i none ≡ none → once e got ds i (ok s) ≡ ok (more plain e (set got i (some s)) ds)
unfolding once bind
once_of e got ds i s p = need_yes _ _ _ p

on_description_of : (e : ℤ) (got : Slots) (ds : Lines) {d r : List ℕ} → Rec description (d, tt) r → length ds < most_lines
    → on_description e got ds r ≡ ok (more plain e got (ds ++ (d ∷ [])))
unfolding on_description bind
on_description_of e got ds c h = rw (rec_fields c) (need_yes _ _ _ h)

on_system_of : (e : ℤ) (got : Slots) (ds : Lines) (k : ℕ) {l : List ℕ} {a b : ℕ} {r : List ℕ} → Rec system (l, (pos a, (pos b, tt))) r → get_or got (15 + k) none ≡ none
    → Accepts a_system (counts a b) → on_system e got ds r (some k) ≡ ok (more plain e (set got (15 + k) (some (counts a b))) ds)
unfolding on_system bind
on_system_of e got ds k {l} {a} {b} c p u = rw (rec_fields c, system_of l a b u) (once_of e got ds (15 + k) (counts a b) p)

on_end_of : (h : Header) (t : FullTexts) (c : Version) (n : ℕ) {r : List ℕ} → Rec header_end tt r → Dimension h.model.dimension h.grid.heights
    → Limits h.times.maps h.grid → on_end c (says h t) n r ≡ ok done
unfolding on_end bind made
on_end_of h t c n x d g = rw (rec_fields x) (need_yes _ _ _ (complete_says h t) ∙ need_yes _ _ _ d ∙ need_yes _ _ _ g)

abbrev LineRules : MapSet → Type 0
LineRules m = DescriptionRules m.header.descriptions m.texts.descriptions

end_row : (m : MapSet) (e : ℤ) (n : ℕ) {r : List ℕ} (y : Feed) → LineRules m → Rec header_end tt r → Fillers m.header
    → Dimension m.header.model.dimension m.header.grid.heights → Limits m.header.times.maps m.header.grid
    → run m.header Between (begins e) 0 y ≡ ok ([], m.maps)
    → heading m.header.version plain e (says m.header m.texts) (lines_left m.header m.texts) (row n r y) ≡ ok m
unfolding heading head_step get bind amap at_head on_line
end_row m e n y o c f d g q =
    let h : Header = m.header in
    rw (rec_label c known_heads.3, on_end_of h m.texts m.header.version (length (lines_left h m.texts)) c d g, made_says h m.texts f, texts_says h m.texts o, q)

-- a line that is left is not the twenty-first
line_fits : (m : MapSet) (ds : Lines) (d : List ℕ) (ls : Lines) → LineRules m → LinesOf m ds (d ∷ ls) → length ds < most_lines
line_fits m ds d ls o q =
    omega (arith, o.few, ap length q, length-append ds (d ∷ ls), lines_length m.header.descriptions m.texts.descriptions)

pub heads : {m : MapSet} {a : Mode} {e : ℤ} {left got : Slots} {ls : Lines} (ds : Lines) {rs : List (List ℕ)} {f : Feed}
    → LineRules m → Heads m a e left ls rs → Carries f rs → Joins m got left → LinesOf m ds ls → heading m.header.version a e got ds f ≡ ok m
unfolding heading head_step get bind amap at_head on_line
heads {m} {e = e} {got = got} ds o (h_description {d = d} {ds = ls} c hw) (c_row x) j q =
    rw (rec_label c known_heads.0, on_description_of e got ds c (line_fits m ds d ls o q)) (heads (ds ++ (d ∷ [])) o hw x j (append_assoc ds (d ∷ []) ls ∙ q))
heads ds o (h_comment c hw) (c_row x) j q = rw (rec_label c known_maps.0, rec_fields c) (heads ds o hw x j q)
heads ds o (h_exponent c u hw) (c_row x) j q = rw (rec_label c known_maps.1, rec_fields c, need_yes _ _ _ u) (heads ds o hw x j q)
heads {e = e} {got = got} ds o (h_field i {s} w l p c u a hw) (c_row x) j q =
    let t = taken i j p in
    rw (rec_label c (known_head i l), rec_fields c, meant_of (content i) w s u a, once_of e got ds i s t.0) (heads ds o hw x t.1 q)
heads ds o (h_aux c hw) (c_row x) j q = rw (rec_label c known_heads.2, rec_fields c) (heads ds o hw x j q)
heads ds o (h_skip u hw) (c_row {r = r} x) j q = rw (pick_no (same (drop 60 r) (name aux_end)) _ _ u) (heads ds o hw x j q)
heads ds o (h_back c hw) (c_row {r = r} x) j q = rw (pick_yes (same (drop 60 r) (name aux_end)) _ _ (rec_name c), rec_fields c) (heads ds o hw x j q)
heads {e = e} {got = got} ds o (h_system k a b l p c u hw) (c_row {r = r} x) j q =
    let t = taken (15 + k) j p in
    let y : get_or r 5 32 ≡ get_or letters k 0 = cc (system_letter c) in
    rw (rec_label c known_heads.1, y, place_letter k l, on_system_of e got ds k c t.0 u) (heads ds o hw x t.1 q)
heads {m} {e = e} {got = got} ds o (h_end c a f d g hw) (c_row {n} {r} {f = y} x) j q =
    let w : ds ≡ lines_left m.header m.texts = sym (append-nil ds) ∙ q in
    ap₂ (λ (l : Slots) (k : Lines). heading m.header.version plain e l k (row n r y)) (full j a) w ∙ end_row m e n y o c f d g (runs hw y x)

-- ---- what is read the rules write

pub record Headed (c : Version) (a : Mode) (e : ℤ) (got : Slots) (ds : Lines) (f : Feed) (m : MapSet) : Type 0 where
  pub rows : List (List ℕ)
  pub left : Slots
  pub later : Lines
  pub carries : Carries f rows
  pub version : m.header.version ≡ c
  pub rules : LineRules m
  pub joined : Joins m got left
  pub lines : LinesOf m ds later
  pub heads : Heads m a e left later rows

-- what is left before a row, by what is left after it
abbrev Earlier : Mode → ℤ → Slots → Lines → List ℕ → Mode → ℤ → Slots → Lines → Type 0
Earlier a e got ds r a' e' got' ds' =
    (m : MapSet) (left' : Slots) (ls' : Lines) (rs : List (List ℕ)) → Joins m got' left' → LinesOf m ds' ls' → Heads m a' e' left' ls' rs
    → (left : Slots) × (ls : Lines) × Joins m got left × LinesOf m ds ls × Heads m a e left ls (r ∷ rs)

-- END OF HEADER stands where it may
pub record Ends (c : Version) (got : Slots) (n : ℕ) (r : List ℕ) : Type 0 where
  pub record_of : Rec header_end tt r
  pub complete : Complete starred got
  pub dimension : Dimension (made c got n).model.dimension (made c got n).grid.heights
  pub limits : Limits (made c got n).times.maps (made c got n).grid

abbrev pub Fine : (c : Version) → Mode → ℤ → Slots → Lines → List ℕ → Turn → Type 0
Fine c a e got ds r (more a' e' got' ds') = Got got' ds' × Earlier a e got ds r a' e' got' ds'
Fine c a e got ds r done = (a ≡ plain) × Ends c got (length ds) r

abbrev is_system : Content → ℕ
is_system (count low high) = 0
is_system (tenths low high) = 0
is_system an_epoch = 0
is_system (axis l) = 0
is_system program = 0
is_system mapping = 0
is_system observables = 0
is_system a_system = 1

pub no_system : (i : ℕ) → i < 15 → ¬ (content i ≡ a_system)
no_system i h q =
    let e : is_system (content i) ≡ 0 = below (λ i. is_system (content i) ≡ 0) 15 (refl, (refl, (refl, (refl, (refl, (refl, (refl, (refl, (refl, (refl, (refl, (refl, (refl, (refl, (refl, tt))))))))))))))) i h in
    omega (arith, ap is_system q)

-- what a row says that is the i-th header record, or the record of a system
pub record Field (i : ℕ) (r : List ℕ) (s : Said) : Type 0 where
  pub values : Vals (items (content i))
  pub record_of : Rec (head i) values r
  pub shows : Shows (content i) values s
  pub accepts : Accepts (content i) s

pub record System (l : List ℕ) (r : List ℕ) (s : Said) : Type 0 where
  pub stations : ℕ
  pub satellites : ℕ
  pub is : s ≡ counts stations satellites
  pub record_of : Rec system (l, (pos stations, (pos satellites, tt))) r
  pub accepts : Accepts a_system (counts stations satellites)

module _ (r : List ℕ) (z : length r ≡ 80) (p : Printable r) where
  field_yields : (i : ℕ) → i < 15 → label r ≡ some (head i) → Yields (Field i r) (bind (fields (head i) r) (meant (content i)))
  field_yields i l q =
      bind_yields (fields (head i) r) (λ v u.
      let x : Rec (head i) v r = row_rec r z q u in
      yields_map (λ s w. record { values = v; record_of = x; shows = w.0; accepts = w.1 }) (meant_yields (content i) v (no_system i l) (rec_written x p)))

  system_read : label r ≡ some system → Yields (System (get_or r 5 32 ∷ []) r) (bind (fields system r) (meant a_system))
  system_read q =
      bind_yields (fields system r) (λ v u.
      let x : Rec system v r = row_rec r z q u in
      yields_map (λ s w.
      let y : v ≡ (get_or r 5 32 ∷ [], (pos w.0, (pos w.1, tt))) = w.3 ∙ ap (λ l. (l, (pos w.0, (pos w.1, tt)))) (system_letter x) in
      record { stations = w.0; satellites = w.1; is = w.2; record_of = rw y at x; accepts = w.4 }) (system_yields v))

module _ (c : Version) (e : ℤ) (got : Slots) (ds : Lines) (g : Got got ds) (r : List ℕ) (z : length r ≡ 80) (p : Printable r) where
  same_left : {a a' : Mode} {e' : ℤ} → ((m : MapSet) (left : Slots) (ls : Lines) (rs : List (List ℕ)) → Heads m a' e' left ls rs → Heads m a e left ls (r ∷ rs)) → Fine c a e got ds r (more a' e' got ds)
  same_left k = (g, λ m left ls rs j q hw. (left, ls, j, q, k m left ls rs hw))

  -- a record is got that was not got before
  got_once : (i : ℕ) (s : Said) → i < 22 → get_or got i none ≡ none → Accepts (content i) s
      → ((m : MapSet) (left : Slots) (ls : Lines) (rs : List (List ℕ)) → get_or left i none ≡ some s → Heads m plain e (set left i none) ls rs → Heads m plain e left ls (r ∷ rs))
      → Fine c plain e got ds r (more plain e (set got i (some s)) ds)
  got_once i s l q a k =
      let n : i < length got = omega (arith, g.sized) in (
        record { sized = simp length-set g.sized; fit = fit_set got i s n g.fit a; few = g.few; lines = g.lines },
        λ m left ls rs j w hw. let t = untaken i got n q j in (set left i (some s), ls, t.0, w, k m (set left i (some s)) ls rs t.1 (rw t.2 hw)),
      )

  fine_field : (i : ℕ) → label r ≡ some (head i) → Yields (Fine c plain e got ds r) (once e got ds i (bind (fields (head i) r) (meant (content i))))
  unfolding once
  fine_field i q =
      let l : i < 15 = label_head r i q in
      need_yields _ _ (λ n. bind_yields _ (λ s f.
      let b = yields _ (field_yields r z p i l q) f in
      y_ok (got_once i s (omega arith) n b.accepts (λ m left ls rs x hw. h_field i b.values l x b.record_of b.shows b.accepts hw))))

  -- a system of the j-th letter
  fine_system : (j : ℕ) → label r ≡ some system → place ℕ_discrete (get_or r 5 32) letters ≡ some j → Yields (Fine c plain e got ds r) (on_system e got ds r (some j))
  unfolding on_system once
  fine_system j q w =
      let t = place_ok ℕ_discrete (get_or r 5 32) 0 letters j w in
      need_yields _ _ (λ n. bind_yields _ (λ s f.
      let b = yields _ (system_read r z p q) f in
      rw b.is
      (y_ok (got_once (15 + j) (counts b.stations b.satellites) (omega (arith, t.0)) n (rw (system_content j) b.accepts)
      (λ m left ls rs k hw. h_system j b.stations b.satellites t.0 k (rw t.1 b.record_of) b.accepts hw)))))

  fine_letter : (o : Option ℕ) → place ℕ_discrete (get_or r 5 32) letters ≡ o → label r ≡ some system → Yields (Fine c plain e got ds r) (on_system e got ds r o)
  fine_letter none w q = unfold on_system in bind_yields (fields system r) (λ v f. y_no)
  fine_letter (some j) w q = fine_system j q w

  -- one more DESCRIPTION line
  fine_description : label r ≡ some description → Yields (Fine c plain e got ds r) (on_description e got ds r)
  unfolding on_description
  fine_description q =
      need_yields _ _ (λ n. bind_yields (fields description r) (λ v f.
      let x : Rec description v r = row_rec r z q f in
      y_ok (
        record {
          sized = g.sized;
          fit = g.fit;
          few = simp length-append (omega arith);
          lines = all_append (Written line_width) ds (v.0 ∷ []) g.lines ((rec_written x p).0, tt);
        },
        λ m left ls rs j w hw. (left, v.0 ∷ ls, j, sym (append_assoc ds (v.0 ∷ []) ls) ∙ w, h_description x hw),
      )))

  fine_end : label r ≡ some header_end → Yields (Fine c plain e got ds r) (on_end c got (length ds) r)
  unfolding on_end
  fine_end q =
      bind_yields (fields header_end r) (λ v f. need_yields _ _ (λ a. need_yields _ _ (λ b. need_yields _ _ (λ d.
      y_ok (refl, record { record_of = row_rec r z q f; complete = a; dimension = b; limits = d })))))

  fine : (l : Label) → label r ≡ some l → Yields (Fine c plain e got ds r) (at_head c e got ds l r)
  unfolding at_head
  fine description q = fine_description q
  fine comment q = bind_yields _ (λ v f. y_ok (same_left (λ m left ls rs hw. h_comment (row_rec r z q f) hw)))
  fine exponent q = bind_yields _ (λ v f. need_yields _ _ (λ u. y_ok (same_left (λ m left ls rs hw. h_exponent (row_rec r z q f) u hw))))
  fine (head i) q = fine_field i q
  fine system q = fine_letter (place ℕ_discrete (get_or r 5 32) letters) refl q
  fine aux_start q = bind_yields _ (λ v f. y_ok (same_left (λ m left ls rs hw. h_aux (row_rec r z q f) hw)))
  fine header_end q = fine_end q
  fine version q = y_no
  fine aux_end q = y_no
  fine (start k) q = y_no
  fine (end k) q = y_no
  fine epoch q = y_no
  fine block q = y_no
  fine file_end q = y_no

  pub fine_step : (a : Mode) → Yields (Fine c a e got ds r) (head_step c a e got ds r)
  unfolding head_step
  fine_step plain = get_yields _ _ fine
  fine_step aux =
      pick_yields _ (λ q. bind_yields _ (λ v f. y_ok (same_left (λ m left ls rs hw. h_back (named_rec r z q f) hw))))
      (λ q. y_ok (same_left (λ m left ls rs hw. h_skip q hw)))

-- the map set that END OF HEADER and the maps make
abbrev set_of : (c : Version) → Slots → Lines → Maps → MapSet
set_of c got ds ms = record { header = made c got (length ds); texts = made_texts got ds; maps = ms }

-- the lines that were got are those of the map set
module _ (c : Version) (got : Slots) (ds : Lines) (g : Got got ds) (ms : Maps) where
  lines_ruled : LineRules (set_of c got ds ms)
  unfolding made made_texts
  lines_ruled = described_rules ds g.few g.lines

  lines_got : LinesOf (set_of c got ds ms) ds []
  unfolding made made_texts
  lines_got = append-nil ds ∙ sym (lines_described ds g.lines)

module _ (c : Version) (e : ℤ) (got : Slots) (ds : Lines) (g : Got got ds) (n : ℕ) (r : List ℕ) (f : Feed) where
  headed_end : (w : List ℤ × Maps) → Ends c got (length ds) r → Wrote (made c got (length ds)) Between (begins e) 0 f w → Headed c plain e got ds (row n r f) (set_of c got ds w.1)
  headed_end w x v =
      let t = rest_none got in
      let y = wrote_rows v in
      record {
        rows = r ∷ y.0;
        left = t.0;
        later = [];
        carries = c_row y.1;
        version = unfold made in refl;
        rules = lines_ruled c got ds g w.1;
        lines = lines_got c got ds g w.1;
        joined = rw (says_made c got (length ds) ds g.sized g.fit x.complete) t.1;
        heads = h_end x.record_of t.2 (made_filled c got (length ds)) x.dimension x.limits y.2;
      }

  turned : (a : Mode) → Sized f → ((a : Mode) (e : ℤ) (got : Slots) (ds : Lines) → Got got ds → Yields (Headed c a e got ds f) (heading c a e got ds f))
      → (t : Turn) → Fine c a e got ds r t
      → Yields {W = Why} (Headed c a e got ds (row n r f)) (elim t [
        | more a' e' got' ds' ↦ heading c a' e' got' ds' f
        | done ↦ amap (λ w. set_of c got ds w.1) (run (made c got (length ds)) Between (begins e) 0 f)
      ])
  turned a s ih (more a' e' got' ds') (l, b) =
      yields_map
      (λ m v.
      let t = b m v.left v.later v.rows v.joined v.lines v.heads in
      record { rows = r ∷ v.rows; left = t.0; later = t.1; carries = c_row v.carries; version = v.version; rules = v.rules; joined = t.2; lines = t.3; heads = t.4 })
      (ih a' e' got' ds' l)
  turned a s ih done (q, x) = rw q (amap_yields _ (yields_map (λ w v. headed_end w x v) (written (made c got (length ds)) f s Between (begins e) 0)))

pub headed : (c : Version) (f : Feed) → Sized f → (a : Mode) (e : ℤ) (got : Slots) (ds : Lines) → Got got ds → Yields (Headed c a e got ds f) (heading c a e got ds f)
unfolding heading short
headed c (over n) s a e got ds g = y_no
headed c (bad w) s a e got ds g = y_no
headed c (row n r f) s a e got ds g =
    bind_yields _ (λ t u. turned c e got ds g n r f a s.1 (λ a' e' got' ds' g'. headed c f s.1 a' e' got' ds' g') t
    (yields _ (on_line_yields n (fine_step c e got ds g r s.0.0 s.0.1 a)) u))
