use Rattle.std.specs.Prelude.{Result, Ok, Err}
-- The maps: what the rules write is read, and what is read the rules write.
use mathlib.Core.Path.{◌≡◌, refl, sym, ◌∙◌}
use mathlib.Core.Bool.{Bool, true, false}
use mathlib.Core.Logic.{◌⊎◌, inl, inr, ⊎_elim}
use Prim.Native.Nat.{ℕ, zero, suc, ◌+◌, ◌-◌, ◌≤◌, ◌<◌}
use native.Mathlib.Omega.{arith}
use mathlib.Core.Option.{some}
use mathlib.Core.List.{List, [], ◌∷◌, ◌++◌, append-nil}
use lib.ListN.{length, get_or, length-append}
use lib.IntN.{ℤ, pos, nat_abs, negsuc}
use Rattle.kit.specs.Answer.{Answer, ok, bind, amap, get}
use Rattle.kit.proofs.AnswerLaws.{need_yes, Yields, y_ok, y_no, yields, need_yields, get_yields, bind_yields, amap_yields, yields_map}
use Rattle.kit.specs.Range.{Natural}
use Rattle.calendar.proofs.FieldLaws.{dated_at, dated_ok}
use Rattle.mapset.specs.declared.Kind.{Kind}
use Rattle.mapset.specs.declared.Kind.TheVariants.{Tec, Rms, Height}
use Rattle.mapset.specs.declared.Header.{Header}
use Rattle.mapset.specs.Grid.{columns}
use Rattle.mapset.specs.MapSet.{Maps}
use Rattle.layout.specs.Records.{Vals, Cells, ValueRows, v_last, v_full}
use Rattle.layout.specs.Labels.{Label, version, description, comment, system, exponent, aux_start, aux_end, header_end, epoch, block, file_end, head, start, end, layout, Rec}
use Rattle.layout.specs.Layout.{Force, under, with_epoch, last_of, with_last, one_more, one_tec, Other, Left, nothing, maps, early, blocks, Loose, Exponent, Date, DateOf, InTime, per_map, Opens, Writes, w_end, w_comment, w_exponent, w_tec, w_epoch, w_other, w_again, w_block, w_close, w_file}
use Rattle.reading.specs.declared.Fault.{Fault}
use Rattle.reading.specs.Feed.{on_line, Feed, over, bad, row}
use Rattle.reading.specs.Fields.{label, fields, cells}
use Rattle.reading.specs.Maps.{Todo, Next, Step, goes, stays, date, on_date, loose, on_comment, on_exponent, start_tec, start_other, start_map, on_start, end_map, on_end, epoch_tec, settled, epoch_other, on_epoch, open_block, on_block, on_file, taken, step, short, finish, on_row, run}
use Rattle.reading.proofs.LineLaws.{Carries, c_over, c_row, Sized}
use Rattle.reading.proofs.RecordLaws.{known_maps, rec_label, rec_fields, row_rec, cells_of, cells_yields}
use Rattle.reading.specs.declared.Place.{Place}
use Rattle.reading.specs.declared.Place.TheVariants.{Ended, Between, Early, Inside}

-- ---- what the rules write is read

abbrev pub place : Left → Place
place nothing = Ended
place (maps ms) = Between
place (early m ms) = Early
place (blocks e k i bs ms) = Inside (record { fresh = e; kind = k; number = i; left = length bs })

abbrev todo : (w : Left) → Todo (place w)
todo nothing = tt
todo (maps ms) = ms
todo (early m ms) = (m, ms)
todo (blocks e k i bs ms) = (bs, ms)

pub on_date_of : {A : Type 0} (d : Date) {t : ℕ} (f : ℕ → Answer Fault A) → DateOf d t → on_date (date d) f ≡ f t
unfolding on_date
on_date_of d {t} f h = rw (dated_at d.0 d.1.0 d.1.1.0 d.1.1.1.0 d.1.1.1.1.0 d.1.1.1.1.1.0 t h)

module _ (h : Header) (p : Force) (r : List ℕ) where
  step_comment : (w : Left) → Loose w → Rec comment tt r → step h (place w) p r ≡ stays (place w) p
  unfolding step taken on_comment loose get bind
  step_comment (maps ms) l c = rw (rec_label c known_maps.0, rec_fields c)
  step_comment (early m ms) l c = rw (rec_label c known_maps.0, rec_fields c)
  step_comment (blocks e k i bs ms) l c = rw (rec_label c known_maps.0, rec_fields c)
  step_comment nothing l c = elim l [ ]

  step_exponent : (e : ℤ) (w : Left) → Loose w → Rec exponent (e, tt) r → Exponent e → step h (place w) p r ≡ stays (place w) (under e p)
  unfolding step taken on_exponent loose get bind
  step_exponent e (maps ms) l c u = rw (rec_label c known_maps.1, rec_fields c) (need_yes _ _ _ u)
  step_exponent e (early m ms) l c u = rw (rec_label c known_maps.1, rec_fields c) (need_yes _ _ _ u)
  step_exponent e (blocks b k i bs ms) l c u = rw (rec_label c known_maps.1, rec_fields c) (need_yes _ _ _ u)
  step_exponent e nothing l c u = elim l [ ]

  step_tec : Rec (start Tec) (pos (suc (length p.epochs)), tt) r → length p.epochs < h.times.maps
      → step h Between p r ≡ goes Early p (λ w. one_tec w.0 w.1)
  unfolding step taken on_start start_map start_tec get bind
  step_tec c u = rw (rec_label c (known_maps.5 Tec), rec_fields c) (need_yes _ _ _ (refl, u))

  step_epoch : (d : Date) (t : ℕ) → Rec epoch d r → DateOf d t → InTime h p.epochs t
      → step h Early p r
      ≡ goes (Inside (record { fresh = false; kind = Tec; number = suc (length p.epochs); left = per_map h })) (with_epoch t p) (λ w. (record { epoch = t; blocks = w.0 }, w.1))
  unfolding step taken on_epoch epoch_tec get bind
  step_epoch d t c u v = rw (rec_label c known_maps.2, rec_fields c) (on_date_of d _ u ∙ need_yes _ _ _ v)

  step_other : (k : Kind) (i : ℕ) → Other k → Rec (start k) (pos i, tt) r → last_of k p < i → i ≤ length p.epochs
      → step h Between p r
      ≡ goes (Inside (record { fresh = true; kind = k; number = i; left = per_map h })) (with_last k i p) (λ w. one_more k (record { of = i; blocks = w.0 }) w.1)
  unfolding step taken on_start start_map start_other get bind
  step_other Rms i o c u v = rw (rec_label c (known_maps.5 Rms), rec_fields c) (need_yes _ _ _ (omega arith, v))
  step_other Height i o c u v = rw (rec_label c (known_maps.5 Height), rec_fields c) (need_yes _ _ _ (omega arith, v))
  step_other Tec i o c u v = elim o [ ]

  step_again : (k : Kind) (i j : ℕ) (d : Date) → Rec epoch d r → DateOf d (get_or p.epochs (i - 1) 0)
      → step h (Inside (record { fresh = true; kind = k; number = i; left = j })) p r ≡ goes (Inside (record { fresh = false; kind = k; number = i; left = j })) p (λ w. w)
  unfolding step taken on_epoch epoch_other get bind
  step_again k i j d c u = rw (rec_label c known_maps.2, rec_fields c) (need_yes _ _ _ refl ∙ on_date_of d _ u ∙ need_yes _ _ _ refl)

  step_block : (e : Bool) (k : Kind) (i j : ℕ) (v : Vals (layout block)) → Rec block v r → Opens h (per_map h - suc j) v
      → step h (Inside (record { fresh = e; kind = k; number = i; left = suc j })) p r
      ≡ ok (record {
        to = Inside (record { fresh = false; kind = k; number = i; left = j });
        force = p;
        due = columns h.grid;
        back = λ zs w. (record { exponent = p.exponent; values = zs } ∷ w.0, w.1);
      })
  unfolding step taken on_block open_block get bind
  step_block e k i j v c o =
      let q : suc j - 1 ≡ j = omega arith in
      rw (rec_label c known_maps.3, rec_fields c)
      (need_yes _ _ _ (omega arith) ∙ need_yes _ _ _ o.latitude ∙ need_yes _ _ _ o.first ∙ need_yes _ _ _ o.last ∙ need_yes _ _ _ o.step ∙ need_yes _ _ _ o.height ∙ rw q)

  step_close : (e : Bool) (k : Kind) (i : ℕ) → Rec (end k) (pos i, tt) r
      → step h (Inside (record { fresh = e; kind = k; number = i; left = 0 })) p r ≡ goes Between p (λ w. ([], w))
  unfolding step taken on_end end_map get bind
  step_close e k i c = rw (rec_label c (known_maps.6 k)) (need_yes _ _ _ refl ∙ rw (rec_fields c) (need_yes _ _ _ refl ∙ need_yes _ _ _ refl))

  step_file : Rec file_end tt r → length p.epochs ≡ h.times.maps
      → step h Between p r ≡ goes Ended p (λ w. record { tec = []; rms = []; height = [] })
  unfolding step taken on_file get bind
  step_file c u = rw (rec_label c known_maps.4, rec_fields c) (need_yes _ _ _ u)

-- ---- a block's values

module _ (h : Header) (q : Place) (p : Force) where
  values_row : (c n : ℕ) (r : List ℕ) (f : Feed) → 1 ≤ c
      → run h q p c (row n r f) ≡ bind (on_line n (cells 1 (on_row c) r)) (λ zs. amap (λ w. (zs ++ w.0, w.1)) (run h q p (c - 16) f))
  unfolding run
  values_row zero n r f l = absurd (omega arith)
  values_row (suc c) n r f l = refl

  -- the row's values, and then what is read behind it
  one_row : (zs : List ℤ) (c m n : ℕ) (r : List ℕ) (f : Feed) {w : List ℤ × Todo q} → 1 ≤ c → on_row c ≡ length zs → c - 16 ≡ m → Cells zs r
      → run h q p m f ≡ ok w → run h q p c (row n r f) ≡ ok (zs ++ w.0, w.1)
  unfolding bind amap on_line
  one_row zs c m n r f l a b x e = values_row c n r f l ∙ rw (a, b, cells_of x 1, e)

  values_run : {zs : List ℤ} {vs : List (List ℕ)} {t : Todo q} (rs : List (List ℕ)) {f : Feed} → ValueRows zs vs → Carries f (vs ++ rs)
      → ((g : Feed) → Carries g rs → run h q p 0 g ≡ ok ([], t)) → run h q p (length zs) f ≡ ok (zs, t)
  values_run {zs} rs (v_last a b z x) (c_row {n} {r} {f} y) k =
      one_row zs (length zs) 0 n r f a (omega arith) (omega arith) x (k f y) ∙ rw (append-nil zs)
  values_run rs (v_full {zs} {more} z s x v) (c_row {n} {r} {f} y) k =
      let e : length (zs ++ more) ≡ 16 + length more = length-append zs more ∙ omega arith in
      one_row zs (length (zs ++ more)) (length more) n r f (omega arith) (omega arith) (omega arith) x (values_run rs v y k)

-- ---- the maps

pub runs : {h : Header} {p : Force} {w : Left} {rs : List (List ℕ)} → Writes h p w rs → (f : Feed) → Carries f rs → run h (place w) p 0 f ≡ ok ([], todo w)
unfolding run bind amap on_line
runs w_end (over n) c_over = unfold finish in refl
runs {h} {p} {w} (w_comment l c hw) (row n r f) (c_row x) = rw (step_comment h p r w l c, runs hw f x)
runs {h} {p} {w} (w_exponent {e} l c u hw) (row n r f) (c_row x) = rw (step_exponent h p r e w l c u, runs hw f x)
runs {h} {p} (w_tec c u hw) (row n r f) (c_row x) = rw (step_tec h p r c u, runs hw f x)
runs {h} {p} (w_epoch {m = m} d c t u z hw) (row n r f) (c_row x) = rw (step_epoch h p r d m.epoch c t u, rw z at (runs hw f x))
runs {h} {p} (w_other k {x = y} o c u v z hw) (row n r f) (c_row x) = rw (step_other h p r k y.of o c u v, rw z at (runs hw f x))
runs {h} {p} (w_again {k = k} {i} {bs} d c u hw) (row n r f) (c_row x) = rw (step_again h p r k i (length bs) d c u, runs hw f x)
runs {h} {p} (w_block {e = e} {k} {i} {zs} {bs} v {rs = rs} c o z y hw) (row n r f) (c_row x) =
    let q = values_run h (Inside (record { fresh = false; kind = k; number = i; left = length bs })) p rs y x (λ g c. runs hw g c) in
    rw (step_block h p r e k i (length bs) v c o, rw z at q)
runs {h} {p} (w_close {e = e} {k} {i} c hw) (row n r f) (c_row x) = rw (step_close h p r e k i c, runs hw f x)
runs {h} {p} (w_file c u hw) (row n r f) (c_row x) = rw (step_file h p r c u, runs hw f x)
runs {h = h} (w_end {p = p}) (bad _) x7 = elim x7 [ ]
runs {h = h} (w_end {p = p}) (row n r f) x7 = elim x7 [ ]
runs {h = h} (w_comment {p = p} {w = w} {r = r} {rs = rs} l c hw) (over n) x7 = elim x7 [ ]
runs {h = h} (w_comment {p = p} {w = w} {r = r} {rs = rs} l c hw) (bad _) x9 = elim x9 [ ]
runs {h = h} (w_exponent {e = e} {p = p} {w = w} {r = r} {rs = rs} l c u hw) (over n) x8 = elim x8 [ ]
runs {h = h} (w_exponent {e = e} {p = p} {w = w} {r = r} {rs = rs} l c u hw) (bad _) x10 = elim x10 [ ]
runs {h = h} (w_tec {p = p} {m = m} {ms = ms} {r = r} {rs = rs} c u hw) (over n) x9 = elim x9 [ ]
runs {h = h} (w_tec {p = p} {m = m} {ms = ms} {r = r} {rs = rs} c u hw) (bad _) x11 = elim x11 [ ]
runs {h = h} (w_epoch {p = p} {m = m} {ms = ms} d {r = r} {rs = rs} c t u z hw) (over n) x10 = elim x10 [ ]
runs {h = h} (w_epoch {p = p} {m = m} {ms = ms} d {r = r} {rs = rs} c t u z hw) (bad _) x12 = elim x12 [ ]
runs {h = h} (w_other {p = p} k {x = y} {ms = ms} {r = r} {rs = rs} o c u v z hw) (over n) x11 = elim x11 [ ]
runs {h = h} (w_other {p = p} k {x = y} {ms = ms} {r = r} {rs = rs} o c u v z hw) (bad _) x13 = elim x13 [ ]
runs {h = h} (w_again {p = p} {k = k} {i = i} {bs = bs} {ms = ms} d {r = r} {rs = rs} c u hw) (over n) x12 = elim x12 [ ]
runs {h = h} (w_again {p = p} {k = k} {i = i} {bs = bs} {ms = ms} d {r = r} {rs = rs} c u hw) (bad _) x14 = elim x14 [ ]
runs {h = h} (w_block {p = p} {e = e} {k = k} {i = i} {zs = zs} {bs = bs} {ms = ms} v {r = r} {vs = vs} {rs = rs} c o z y hw) (over n) x13 = elim x13 [ ]
runs {h = h} (w_block {p = p} {e = e} {k = k} {i = i} {zs = zs} {bs = bs} {ms = ms} v {r = r} {vs = vs} {rs = rs} c o z y hw) (bad _) x15 = elim x15 [ ]
runs {h = h} (w_close {p = p} {e = e} {k = k} {i = i} {ms = ms} {r = r} {rs = rs} c hw) (over n) x14 = elim x14 [ ]
runs {h = h} (w_close {p = p} {e = e} {k = k} {i = i} {ms = ms} {r = r} {rs = rs} c hw) (bad _) x16 = elim x16 [ ]
runs {h = h} (w_file {p = p} {r = r} {rs = rs} c u hw) (over n) x15 = elim x15 [ ]
runs {h = h} (w_file {p = p} {r = r} {rs = rs} c u hw) (bad _) x17 = elim x17 [ ]

-- ---- what is read the rules write

abbrev pub left : (q : Place) → Todo q → Left
left Ended w = nothing
left Between ms = maps ms
left Early w = early w.0 w.1
left (Inside o) w = blocks o.fresh o.kind o.number w.0 w.1

-- what comes is what was counted
abbrev Counts : (q : Place) → Todo q → Type 0
Counts Ended w = Unit {0}
Counts Between ms = Unit {0}
Counts Early w = Unit {0}
Counts (Inside o) w = length w.0 ≡ o.left

-- c values, in the rows vs
abbrev Valued : ℕ → List ℤ → List (List ℕ) → Type 0
Valued c zs vs = ((c ≡ 0) × ((zs ≡ []) × (vs ≡ []))) ⊎ ((length zs ≡ c) × ValueRows zs vs)

-- a step is good: what is written after it is written with its row
abbrev Good : (h : Header) (q : Place) (p : Force) → List ℕ → Next q → Type 0
Good h q p r x =
    (zs : List ℤ) (w : Todo x.to) (vs rs : List (List ℕ)) → Valued x.due zs vs → Writes h x.force (left x.to w) rs → Counts x.to w
    → Writes h p (left q (x.back zs w)) (r ∷ (vs ++ rs)) × Counts q (x.back zs w)

some_values : {zs : List ℤ} {vs : List (List ℕ)} → ValueRows zs vs → 1 ≤ length zs
some_values (v_last a b z x) = a
some_values (v_full {zs} {more} z s x v) = let e = length-append zs more in omega arith

pub on_date_yields : {A : Type 0} {Q : A → Type 0} (d : Date) {f : ℕ → Answer Fault A} → ((t : ℕ) → DateOf d t → Yields Q (f t)) → Yields Q (on_date (date d) f)
unfolding on_date
on_date_yields {A} {Q} d {f} k = by (date d) (λ t e. dated_ok d.0 d.1.0 d.1.1.0 d.1.1.1.0 d.1.1.1.1.0 d.1.1.1.1.1.0 t e)
  where
    by : (x : Result ℕ ℕ) → ((t : ℕ) → x ≡ Ok t → DateOf d t) → Yields Q (on_date x f)
    by (Ok t) e = k t (e t refl)
    by (Err c) e = y_no

module _ (h : Header) (p : Force) (r : List ℕ) (z : length r ≡ 80) where
  -- a step with no values to come
  good_goes : (q to : Place) (p' : Force) (f : Todo to → Todo q)
      → ((w : Todo to) (rs : List (List ℕ)) → Writes h p' (left to w) rs → Counts to w → Writes h p (left q (f w)) (r ∷ rs) × Counts q (f w))
      → Yields (Good h q p r) (goes {q = q} to p' f)
  good_goes q to p' f k = y_ok good
    where
      good : Good h q p r (record { to = to; force = p'; due = 0; back = λ zs. f })
      good zs w vs rs v hw c =
          ⊎_elim (λ e. rw e.1.1 (k w rs hw c)) (λ e. let s = some_values e.1 in absurd (omega (arith, e.0))) v

  -- where EXPONENT and COMMENT may stand, what is left is loose
  good_loose : (q : Place) (x : Step q) → (((w : Todo q) → Loose (left q w)) → Yields (Good h q p r) x) → Yields (Good h q p r) (loose q x)
  unfolding loose
  good_loose Ended x k = y_no
  good_loose Between x k = k (λ _. tt)
  good_loose Early x k = k (λ _. tt)
  good_loose (Inside o) x k = k (λ _. tt)

  good_comment : (q : Place) → label r ≡ some comment → Yields (Good h q p r) (on_comment q p r)
  unfolding on_comment
  good_comment q e = good_loose q _ (λ l. bind_yields _ (λ v f. good_goes q q p _ (λ w rs hw c. (w_comment (l w) (row_rec r z e f) hw, c))))

  good_exponent : (q : Place) → label r ≡ some exponent → Yields (Good h q p r) (on_exponent q p r)
  unfolding on_exponent
  good_exponent q e =
      good_loose q _ (λ l. bind_yields _ (λ v f. need_yields _ _ (λ u. good_goes q q (under v.0 p) _ (λ w rs hw c. (w_exponent (l w) (row_rec r z e f) u hw, c)))))

  good_tec : label r ≡ some (start Tec) → Yields (Good h Between p r) (start_tec h p r)
  unfolding start_tec
  good_tec e =
      bind_yields (fields (start Tec) r) (λ v f. need_yields _ _ (λ (u : (v.0 ≡ pos (suc (length p.epochs))) × (length p.epochs < h.times.maps)). good_goes Between Early p _ (λ w rs hw c. (w_tec (rw u.0 at (row_rec r z e f)) u.1 hw, tt))))

  -- a number that lies in a range is not negative
  not_negative : {low high : ℕ} (i : ℤ) → Natural low high i → (i ≡ pos (nat_abs i)) × ((low ≤ nat_abs i) × (nat_abs i ≤ high))
  not_negative (pos n) u = (refl, u)
  not_negative {low = low} {high = high} (negsuc _) u = elim u [ ]

  good_other : (k : Kind) → Other k → label r ≡ some (start k) → Yields (Good h Between p r) (start_other k h p r)
  unfolding start_other
  good_other k o e =
      bind_yields (fields (start k) r) (λ v f. need_yields _ _ (λ u.
      let n : (v.0 ≡ pos (nat_abs v.0)) × ((suc (last_of k p) ≤ nat_abs v.0) × (nat_abs v.0 ≤ length p.epochs)) = not_negative v.0 u in
      good_goes Between (Inside (record { fresh = true; kind = k; number = nat_abs v.0; left = per_map h })) (with_last k (nat_abs v.0) p) _
      (λ w rs hw c. (w_other k o (rw n.0 at (row_rec r z e f)) n.1.0 n.1.1 c hw, tt))))

  good_start : (k : Kind) (q : Place) → label r ≡ some (start k) → Yields (Good h q p r) (on_start h q p k r)
  unfolding on_start start_map
  good_start k Ended e = y_no
  good_start Tec Between e = good_tec e
  good_start Rms Between e = good_other Rms tt e
  good_start Height Between e = good_other Height tt e
  good_start k Early e = y_no
  good_start k (Inside o) e = y_no

  good_end : (k : Kind) (q : Place) → label r ≡ some (end k) → Yields (Good h q p r) (on_end h q p k r)
  unfolding on_end end_map
  good_end k Ended e = y_no
  good_end k Between e = y_no
  good_end k Early e = need_yields _ _ (λ u. bind_yields _ (λ v f. y_no))
  good_end k (Inside o) e =
      need_yields _ _ (λ (u : k ≡ o.kind). bind_yields (fields (end k) r) (λ v f. need_yields _ _ (λ (a : o.left ≡ 0). need_yields _ _ (λ (b : v.0 ≡ pos o.number).
      good_goes (Inside o) Between p _ (λ w rs hw c. (closed u (rw b at (row_rec r z e f)) hw, sym a))))))
    where
      closed : {k k' : Kind} {e : Bool} {i : ℕ} {ms : Maps} {rs : List (List ℕ)} → k ≡ k' → Rec (end k) (pos i, tt) r → Writes h p (maps ms) rs
          → Writes h p (blocks e k' i [] ms) (r ∷ rs)
      closed u x hw = w_close (rw u at x) hw

  good_epoch : (q : Place) → label r ≡ some epoch → Yields (Good h q p r) (on_epoch h q p r)
  unfolding on_epoch epoch_tec epoch_other
  good_epoch Ended e = y_no
  good_epoch Between e = y_no
  good_epoch Early e =
      bind_yields _ (λ d f. on_date_yields d (λ t u. need_yields _ _ (λ v.
      good_goes Early (Inside (record { fresh = false; kind = Tec; number = suc (length p.epochs); left = per_map h })) (with_epoch t p) _
      (λ w rs hw c. (w_epoch d (row_rec r z e f) u v c hw, tt)))))
  good_epoch (Inside o) e =
      need_yields _ _ (λ b. bind_yields _ (λ d f. on_date_yields d (λ t u. need_yields _ _ (λ v.
      good_goes (Inside o) (Inside (settled o)) p _ (λ w rs hw c. (rw b (w_again d (row_rec r z e f) (rw v at u) hw), c))))))

  good_block : (q : Place) → label r ≡ some block → Yields (Good h q p r) (on_block h q p r)
  unfolding on_block open_block
  good_block Ended e = y_no
  good_block Between e = y_no
  good_block Early e = y_no
  good_block (Inside o) e =
      need_yields _ _ (λ l. bind_yields _ (λ v f. need_yields _ _ (λ a. need_yields _ _ (λ b. need_yields _ _ (λ c. need_yields _ _ (λ d. need_yields _ _ (λ g.
      y_ok (λ zs w vs rs x hw y. ⊎_elim
      (λ e0. absurd (omega (arith, e0.0)))
      (λ e1.
      let s : o.left ≡ suc (length w.0) = omega (arith, y) in
      let x : Opens h (per_map h - o.left) v = record { latitude = a; first = b; last = c; step = d; height = g } in
      (w_block v (row_rec r z e f) (rw s at x) e1.0 e1.1 hw, omega arith))
      x))))))))

  good_file : (q : Place) → label r ≡ some file_end → Yields (Good h q p r) (on_file h q p r)
  unfolding on_file
  good_file Ended e = y_no
  good_file Between e = bind_yields _ (λ v f. need_yields _ _ (λ u. good_goes Between Ended p _ (λ w rs hw c. (w_file (row_rec r z e f) u hw, tt))))
  good_file Early e = y_no
  good_file (Inside o) e = y_no

  good_taken : (q : Place) (l : Label) → label r ≡ some l → Yields (Good h q p r) (taken h q p l r)
  unfolding taken
  good_taken q comment e = good_comment q e
  good_taken q exponent e = good_exponent q e
  good_taken q (start k) e = good_start k q e
  good_taken q (end k) e = good_end k q e
  good_taken q epoch e = good_epoch q e
  good_taken q block e = good_block q e
  good_taken q file_end e = good_file q e
  good_taken q version e = y_no
  good_taken q description e = y_no
  good_taken q system e = y_no
  good_taken q aux_start e = y_no
  good_taken q aux_end e = y_no
  good_taken q header_end e = y_no
  good_taken q (head i) e = y_no

  good_step : (q : Place) → Yields (Good h q p r) (step h q p r)
  unfolding step
  good_step q = get_yields _ _ (good_taken q)

-- an answer on a line
pub on_line_yields : {A : Type 0} {Q : A → Type 0} (n : ℕ) {x : Answer Fault A} → Yields Q x → Yields Q (on_line n x)
unfolding on_line
on_line_yields n (y_ok q) = y_ok q
on_line_yields n y_no = y_no

-- what was read from a place on, with c values to come first, stands in the rows
pub record Wrote (h : Header) (q : Place) (p : Force) (c : ℕ) (f : Feed) (w : List ℤ × Todo q) : Type 0 where
  pub values : List (List ℕ)
  pub rows : List (List ℕ)
  pub carries : Carries f (values ++ rows)
  pub valued : Valued c w.0 values
  pub writes : Writes h p (left q w.1) rows
  pub counts : Counts q w.1

valued_row : (c : ℕ) {r : List ℕ} {zs : List ℤ} {more : List ℤ} {vs : List (List ℕ)} → 1 ≤ c → length r ≡ 80 → Cells zs r → length zs ≡ on_row c → Valued (c - 16) more vs
    → Valued c (zs ++ more) (r ∷ vs)
valued_row c {r} {zs} {more} {vs} l z x e (inl v) =
    let d : more ≡ [] = v.1.0 in
    let k = v.0 in
    rw (v.1.1, d, append-nil zs) (inr (omega arith, v_last {zs = zs} (omega arith) (omega arith) z x))
valued_row c {r} {zs} {more} {vs} l z x e (inr v) =
    let s = some_values v.1 in
    let k = v.0 in
    inr (length-append zs more ∙ omega arith, v_full {zs = zs} (omega arith) z x v.1)

pub written : (h : Header) (f : Feed) → Sized f → (q : Place) (p : Force) (c : ℕ) → Yields (Wrote h q p c f) (run h q p c f)
unfolding run finish short
written h (over n) s Ended p zero = y_ok (record { values = []; rows = []; carries = c_over; valued = inl (refl, (refl, refl)); writes = w_end; counts = tt })
written h (over n) s Between p zero = y_no
written h (over n) s Early p zero = y_no
written h (over n) s (Inside o) p zero = y_no
written h (over n) s q p (suc c) = y_no
written h (bad w) s q p zero = y_no
written h (bad w) s q p (suc c) = y_no
written h (row n r f) s q p zero =
    bind_yields _ (λ x e. amap_yields _
    (yields_map
    (λ w v.
    let g = yields _ (on_line_yields n (good_step h p r s.0.0 q)) e w.0 w.1 v.values v.rows v.valued v.writes v.counts in
    record { values = []; rows = r ∷ (v.values ++ v.rows); carries = c_row v.carries; valued = inl (refl, (refl, refl)); writes = g.0; counts = g.1 })
    (written h f s.1 x.to x.force x.due)))
written h (row n r f) s q p (suc c) =
    bind_yields _ (λ zs e. amap_yields _
    (yields_map
    (λ w v.
    let g = yields _ (on_line_yields n (cells_yields 1 (on_row (suc c)) r (omega (arith, s.0.0)))) e in
    record { values = r ∷ v.values; rows = v.rows; carries = c_row v.carries; valued = valued_row (suc c) (omega arith) s.0.0 g.0 g.1 v.valued; writes = v.writes; counts = v.counts })
    (written h f s.1 q p (suc c - 16))))

-- with no values to come, the rows are the maps'
pub wrote_rows : {h : Header} {q : Place} {p : Force} {f : Feed} {w : List ℤ × Todo q} → Wrote h q p 0 f w → (rs : List (List ℕ)) × Carries f rs × Writes h p (left q w.1) rs
wrote_rows {f = f} w = (w.rows, bare w.values w.valued w.carries, w.writes)
  where
    bare : (vs : List (List ℕ)) {zs : List ℤ} → Valued 0 zs vs → Carries f (vs ++ w.rows) → Carries f w.rows
    bare vs (inl v) c = rw v.1.1 at c
    bare vs (inr v) c = let s = some_values v.1 in absurd (omega (arith, v.0))
