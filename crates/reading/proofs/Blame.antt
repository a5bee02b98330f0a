use Rattle.std.specs.Prelude.{Option, Some, None, Result, Ok, Err}
-- Which numbers and columns a row can be refused with: 3 or 6 where the version record is due, and 4 to 9 after it.
use mathlib.Core.Path.{◌≡◌, refl}
use mathlib.Core.Logic.{inl, inr}
use lib.Dec.{T}
use native.Mathlib.Omega.{arith}
use mathlib.Core.Option.{Option as Maybe, none, some}
use native.Mathlib.Decide.{ℕ_discrete}
use Prim.Native.Nat.{ℕ, zero, suc, ◌+◌, ◌*◌, ◌≤◌, ◌<◌}
use mathlib.Core.List.{List, [], ◌∷◌, ◌++◌}
use lib.ListN.{length, take, drop, replicate, length-drop}
use lib.IntN.{ℤ}
use Rattle.kit.specs.Answer.{All, Answer, ok, refused, need, bind, amap, get, pick}
use Rattle.kit.proofs.AnswerLaws.{pick_elim}
use Rattle.calendar.specs.Calendar.{Number as DateNumber, within, numbers, second, first, wrong_at, dated}
use Rattle.calendar.specs.declared.Field.TheVariants as K
use Rattle.calendar.specs.declared.Field.{Field as DateField}
use Rattle.mapset.specs.declared.Kind.{Kind}
use Rattle.mapset.specs.declared.Kind.TheVariants.{Tec, Rms, Height}
use Rattle.mapset.specs.declared.Version.{Version}
use Rattle.mapset.specs.declared.Header.{Header}
use Rattle.mapset.specs.Header.{Content, count, tenths, epoch as an_epoch, axis, program, mapping, observables, system as a_system, Said}
use Rattle.layout.specs.Records.{Item, I, F, D, X, A, U, Vals}
use Rattle.layout.specs.Labels.{Label, version, description, comment, system, exponent, aux_start, aux_end, header_end, epoch, block, file_end, head, start, end, items, content, layout}
use Rattle.layout.specs.Layout.{Force, Slots, Lines, Mode, plain, aux, Date}
use Rattle.reading.specs.declared.Fault.{Fault}
use Rattle.reading.specs.Feed.{fault}
use Rattle.reading.specs.Fields.{number, blanks, blank, scan, fields, cells}
use Rattle.reading.specs.Maps.{Step, date, on_date, loose, on_comment, on_exponent, start_tec, start_other, start_map, on_start, end_map, on_end, epoch_tec, epoch_other, on_epoch, open_block, on_block, on_file, taken, step}
use Rattle.reading.specs.Head.{meant, once, on_description, on_system, on_end as on_header_end, at_head, head_step}
use Rattle.reading.specs.Read.{versioned, version_of}
use Rattle.reading.specs.declared.Place.{Place}
use Rattle.reading.specs.declared.Place.TheVariants.{Ended, Between, Early, Inside}
use Rattle.reading.specs.Refusals.{among, Checks, Later, four, five, six, seven, eight, nine, First, three, six_first}

-- if it is refused, P holds of the reason
pub data Blames {W A : Type 0} (P : W → Type 0) : Answer W A → Type 0 where
  b_ok : {a : A} → Blames P (ok a)
  b_no : {w : W} → P w → Blames P (refused w)

pub blamed : {W A : Type 0} {P : W → Type 0} {w : W} → Blames {A = A} P (refused w) → P w
blamed (b_no p) = p

module _ {W A : Type 0} {P : W → Type 0} where
  need_blames : {Q : Type 0} (d : Dec Q) (w : W) {x : Answer W A} → P w → Blames P x → Blames P (need d w x)
  unfolding need
  need_blames (yes q) w p b = b
  need_blames (no n) w p b = b_no p

  unless_blames : {Q : Type 0} (d : Dec Q) (w : W) {x : Answer W A} → (¬ Q → P w) → Blames P x → Blames P (need d w x)
  unfolding need
  unless_blames (yes q) w p b = b
  unless_blames (no n) w p b = b_no (p n)

  pick_blames : {Q : Type 0} (d : Dec Q) {x y : Answer W A} → Blames P x → Blames P y → Blames P (pick d x y)
  unfolding pick
  pick_blames (yes q) a b = a
  pick_blames (no n) a b = b

  get_blames : {B : Type 0} (o : Maybe B) (w : W) {f : B → Answer W A} → P w → ((b : B) → Blames P (f b)) → Blames P (get o w f)
  unfolding get
  get_blames (some b) w p h = h b
  get_blames none w p h = b_no p

  bind_blames : {B : Type 0} {o : Answer W B} {f : B → Answer W A} → Blames P o → ((b : B) → Blames P (f b)) → Blames P (bind o f)
  unfolding bind
  bind_blames b_ok h = h _
  bind_blames (b_no p) h = b_no p

  pub amap_blames : {B : Type 0} (g : B → A) {o : Answer W B} → Blames P o → Blames P (amap g o)
  unfolding amap
  amap_blames g b_ok = b_ok
  amap_blames g (b_no p) = b_no p

pub blames_map : {W A : Type 0} {P R : W → Type 0} {x : Answer W A} → ((w : W) → P w → R w) → Blames P x → Blames R x
blames_map f b_ok = b_ok
blames_map f (b_no p) = b_no (f _ p)

-- ---- 6: a field or an X column

take_short : (w : ℕ) (bs : List ℕ) → length (take w bs) ≤ w
take_short zero [] = omega arith
take_short zero (b ∷ bs) = omega arith
take_short (suc w) [] = omega arith
take_short (suc w) (b ∷ bs) = omega (arith, take_short w bs)

-- not all of them are blank
blanks_less : (bs : List ℕ) → ¬ All (λ b. b ≡ 32) bs → blanks bs < length bs
unfolding blanks
blanks_less [] n = absurd (n tt)
blanks_less (b ∷ bs) n = pick_elim (λ (k : ℕ). k < suc (length bs)) (ℕ_discrete b 32) (λ e. omega (arith, blanks_less bs (λ a. n (e, a)))) (λ _. omega arith)

module _ {A : Type 0} {P : Fault → Type 0} where
  number_blames : (o : Option ℤ) (c : ℕ) {f : ℤ → Answer Fault A} → P (fault 6 c) → ((z : ℤ) → Blames P (f z)) → Blames P (number o c f)
  unfolding number
  number_blames (Some z) c k h = h z
  number_blames None c k h = b_no k

  blank_blames : (bs : List ℕ) (c : ℕ) {x : Answer Fault A} → ((i : ℕ) → i < length bs → P (fault 6 (c + i))) → Blames P x → Blames P (blank bs c x)
  unfolding blank
  blank_blames bs c k b = unless_blames _ _ (λ n. k (blanks bs) (blanks_less bs n)) b

module _ {P : Fault → Type 0} where
  scan_blames : (c : ℕ) (is : List Item) (bs : List ℕ) → ((x : ℕ) → Checks c is x → P (fault 6 x)) → Blames P (scan c is bs)
  unfolding scan
  scan_blames c [] bs k = b_ok
  scan_blames c (I w ∷ is) bs k = number_blames _ c (k c (inl refl)) (λ z. amap_blames _ (scan_blames (c + w) is (drop w bs) (λ x h. k x (inr h))))
  scan_blames c (F w ∷ is) bs k = number_blames _ c (k c (inl refl)) (λ z. amap_blames _ (scan_blames (c + w) is (drop w bs) (λ x h. k x (inr h))))
  scan_blames c (D w ∷ is) bs k = number_blames _ c (k c (inl refl)) (λ z. amap_blames _ (scan_blames (c + w) is (drop w bs) (λ x h. k x (inr h))))
  scan_blames c (X w ∷ is) bs k =
      blank_blames (take w bs) c (λ i h. k (c + i) (inl (omega arith, omega (arith, take_short w bs)))) (scan_blames (c + w) is (drop w bs) (λ x h. k x (inr h)))
  scan_blames c (A w ∷ is) bs k = amap_blames _ (scan_blames (c + w) is (drop w bs) k)
  scan_blames c (U w ∷ is) bs k = scan_blames (c + w) is (drop w bs) k

  fields_blame : (l : Label) (r : List ℕ) → ((x : ℕ) → Checks 1 (layout l) x → P (fault 6 x)) → Blames P (fields l r)
  unfolding fields
  fields_blame l r k = scan_blames 1 (layout l) (take 60 r) k

in_fields : (l : Label) (r : List ℕ) → Blames Later (fields l r)
in_fields l r = fields_blame l r (λ x h. six l h)

-- m values from column c on, and at most w columns behind them
pub cells_blame : {P : Fault → Type 0} (c m w : ℕ) (bs : List ℕ) → length bs ≤ 5 * m + w
    → ((x : ℕ) → Checks c (replicate m (I 5) ++ (X w ∷ [])) x → P (fault 6 x)) → Blames P (cells c m bs)
unfolding cells
cells_blame c zero w bs n k = blank_blames bs c (λ i h. k (c + i) (inl (omega arith, omega arith))) b_ok
cells_blame c (suc m) w bs n k =
    number_blames _ c (k c (inl refl)) (λ z. amap_blames _ (cells_blame (c + 5) m w (drop 5 bs) (omega (arith, length-drop 5 bs)) (λ x h. k x (inr h))))

-- ---- 7: the fields of a date
abbrev InDate : Result ℕ ℕ → Type 0
InDate (Ok t) = Unit {0}
InDate (Err c) = T (among c (0 ∷ 1 ∷ 3 ∷ 6 ∷ 7 ∷ 9 ∷ 13 ∷ 15 ∷ 19 ∷ 25 ∷ 31 ∷ []))

field_in : (f : DateField) → InDate (wrong_at f)
field_in K.Year = tt
field_in K.Month = tt
field_in K.Day = tt
field_in K.Hour = tt
field_in K.Minute = tt
field_in K.Second = tt

first_in : (t : Result ℕ ℕ) (ns : List DateNumber) → InDate t → InDate (first wrong_at t ns)
first_in t [] h = h
first_in t (n ∷ ns) h = pick_elim InDate (within n) (λ _. first_in t ns h) (λ _. field_in n.field)

date_in : (d : Date) → InDate (date d)
unfolding dated
date_in d = first_in (Ok (second d.0 d.1.0 d.1.1.0 d.1.1.1.0 d.1.1.1.1.0 d.1.1.1.1.1.0)) (numbers d.0 d.1.0 d.1.1.0 d.1.1.1.0 d.1.1.1.1.0 d.1.1.1.1.1.0) tt

date_blames : {A : Type 0} (t : Result ℕ ℕ) {f : ℕ → Answer Fault A} → InDate t → ((t : ℕ) → Blames Later (f t)) → Blames Later (on_date t f)
unfolding on_date
date_blames (Ok t) k h = h t
date_blames (Err c) k h = b_no (seven k)

-- ---- the maps

module _ (h : Header) (p : Force) (r : List ℕ) where
  loose_blames : (q : Place) {x : Step q} → Blames Later x → Blames Later (loose q x)
  unfolding loose
  loose_blames Ended b = b_no five
  loose_blames Between b = b
  loose_blames Early b = b
  loose_blames (Inside o) b = b

  other_blames : (k : Kind) → Blames Later (start_other k h p r)
  unfolding start_other
  other_blames k = bind_blames (in_fields (start k) r) (λ v. need_blames _ _ (eight tt) b_ok)

  start_blames : (k : Kind) (q : Place) → Blames Later (on_start h q p k r)
  unfolding on_start start_map start_tec
  start_blames k Ended = b_no five
  start_blames Tec Between = bind_blames (in_fields (start Tec) r) (λ v. need_blames _ _ (eight tt) b_ok)
  start_blames Rms Between = other_blames Rms
  start_blames Height Between = other_blames Height
  start_blames k Early = b_no five
  start_blames k (Inside o) = b_no five

  end_blames : (k : Kind) (q : Place) → Blames Later (on_end h q p k r)
  unfolding on_end end_map
  end_blames k Ended = b_no five
  end_blames k Between = b_no five
  end_blames k Early = need_blames _ _ five (bind_blames (in_fields (end k) r) (λ v. b_no nine))
  end_blames k (Inside o) = need_blames _ _ five (bind_blames (in_fields (end k) r) (λ v. need_blames _ _ nine (need_blames _ _ (eight tt) b_ok)))

  epoch_blames : (q : Place) → Blames Later (on_epoch h q p r)
  unfolding on_epoch epoch_tec epoch_other
  epoch_blames Ended = b_no five
  epoch_blames Between = b_no five
  epoch_blames Early = bind_blames (in_fields epoch r) (λ d. date_blames _ (date_in d) (λ t. need_blames _ _ (eight tt) b_ok))
  epoch_blames (Inside o) = need_blames _ _ five (bind_blames (in_fields epoch r) (λ d. date_blames _ (date_in d) (λ t. need_blames _ _ (eight tt) b_ok)))

  block_blames : (q : Place) → Blames Later (on_block h q p r)
  unfolding on_block open_block
  block_blames Ended = b_no five
  block_blames Between = b_no five
  block_blames Early = b_no five
  block_blames (Inside o) =
      need_blames _ _ five (bind_blames (in_fields block r) (λ v.
      need_blames _ _ (eight tt) (need_blames _ _ (eight tt) (need_blames _ _ (eight tt) (need_blames _ _ (eight tt) (need_blames _ _ (eight tt) b_ok))))))

  file_blames : (q : Place) → Blames Later (on_file h q p r)
  unfolding on_file
  file_blames Ended = b_no five
  file_blames Between = bind_blames (in_fields file_end r) (λ v. need_blames _ _ nine b_ok)
  file_blames Early = b_no five
  file_blames (Inside o) = b_no five

  taken_blames : (q : Place) (l : Label) → Blames Later (taken h q p l r)
  unfolding taken on_comment on_exponent
  taken_blames q comment = loose_blames q (bind_blames (in_fields comment r) (λ v. b_ok))
  taken_blames q exponent = loose_blames q (bind_blames (in_fields exponent r) (λ v. need_blames _ _ (seven tt) b_ok))
  taken_blames q (start k) = start_blames k q
  taken_blames q (end k) = end_blames k q
  taken_blames q epoch = epoch_blames q
  taken_blames q block = block_blames q
  taken_blames q file_end = file_blames q
  taken_blames q version = b_no five
  taken_blames q description = b_no five
  taken_blames q system = b_no five
  taken_blames q aux_start = b_no five
  taken_blames q aux_end = b_no five
  taken_blames q header_end = b_no five
  taken_blames q (head i) = b_no five

  pub step_blames : (q : Place) → Blames Later (step h q p r)
  unfolding step
  step_blames q = get_blames _ _ four (taken_blames q)

-- ---- the header
meant_blames : (k : Content) (v : Vals (items k)) → Blames Later (meant k v)
unfolding meant
meant_blames (count low high) v = need_blames _ _ (seven tt) b_ok
meant_blames (tenths low high) v = need_blames _ _ (seven tt) b_ok
meant_blames an_epoch v = date_blames _ (date_in v) (λ t. b_ok)
meant_blames (axis l) v = need_blames _ _ (seven tt) (need_blames _ _ (seven tt) (need_blames _ _ (seven tt) (need_blames _ _ (seven tt) b_ok)))
meant_blames program v = b_ok
meant_blames mapping v = b_ok
meant_blames observables v = b_ok
meant_blames a_system v = need_blames _ _ (seven tt) (need_blames _ _ (seven tt) b_ok)

module _ (c : Version) (e : ℤ) (got : Slots) (ds : Lines) (r : List ℕ) where
  once_blames : (i : ℕ) {x : Answer Fault Said} → Blames Later x → Blames Later (once e got ds i x)
  unfolding once
  once_blames i b = need_blames _ _ five (bind_blames b (λ s. b_ok))

  system_blames : (o : Maybe ℕ) → Blames Later (on_system e got ds r o)
  unfolding on_system
  system_blames none = bind_blames (in_fields system r) (λ v. b_no (seven tt))
  system_blames (some j) = once_blames _ (bind_blames (in_fields system r) (meant_blames a_system))

  at_head_blames : (l : Label) → Blames Later (at_head c e got ds l r)
  unfolding at_head on_description on_header_end
  at_head_blames description = need_blames _ _ five (bind_blames (in_fields description r) (λ v. b_ok))
  at_head_blames comment = bind_blames (in_fields comment r) (λ v. b_ok)
  at_head_blames exponent = bind_blames (in_fields exponent r) (λ v. need_blames _ _ (seven tt) b_ok)
  at_head_blames (head i) = once_blames i (bind_blames (in_fields (head i) r) (meant_blames (content i)))
  at_head_blames system = system_blames _
  at_head_blames aux_start = bind_blames (in_fields aux_start r) (λ v. b_ok)
  at_head_blames header_end = bind_blames (in_fields header_end r) (λ v. need_blames _ _ nine (need_blames _ _ (eight tt) (need_blames _ _ (seven tt) b_ok)))
  at_head_blames version = b_no five
  at_head_blames aux_end = b_no five
  at_head_blames (start k) = b_no five
  at_head_blames (end k) = b_no five
  at_head_blames epoch = b_no five
  at_head_blames block = b_no five
  at_head_blames file_end = b_no five

  pub head_step_blames : (a : Mode) → Blames Later (head_step c a e got ds r)
  unfolding head_step
  head_step_blames plain = get_blames _ _ four at_head_blames
  head_step_blames aux = pick_blames _ (bind_blames (in_fields aux_end r) (λ v. b_ok)) b_ok

-- ---- the version record
pub version_blames : (r : List ℕ) → Blames First (version_of r)
unfolding version_of versioned
version_blames r =
    need_blames _ _ (three tt) (bind_blames (fields_blame version r (λ x h. six_first h)) (λ v.
    need_blames _ _ (three tt) (need_blames _ _ (three tt) (get_blames _ _ (three tt) (λ c. need_blames _ _ (three tt) b_ok)))))
