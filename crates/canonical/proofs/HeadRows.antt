-- The header of canonical text is written by the rules.
use mathlib.Core.Path.{◌≡◌, refl, sym, ap, subst, ◌∙◌}
use mathlib.Core.Option.{Option, none, some}
use mathlib.Core.List.{List, [], ◌∷◌, ◌++◌}
use Prim.Native.Nat.{ℕ, zero, suc, ◌+◌, ◌-◌, ◌≤◌, ◌<◌}
use native.Mathlib.Omega.{arith}
use native.Mathlib.Decide.{ℕ_discrete, dec_lt}
use lib.IntN.{ℤ}
use lib.ListN.{length, get_or, set, length-set}
use lib.Seq.{get_or-set_same, get_or-set_other, set-get_or}
use Rattle.kit.specs.Answer.{All}
use Rattle.kit.proofs.AnswerLaws.{pick_yes, pick_elim}
use Rattle.kit.proofs.ListLaws.{below}
use Rattle.kit.specs.Range.{Within}
use Rattle.days.specs.Years.{row}
use Rattle.calendar.specs.Calendar.{DateAt, date_at}
use Rattle.calendar.specs.End.{end as after_2199}
use Rattle.calendar.proofs.DateLaws.{date_is as date_is_at}
use Rattle.days.proofs.YearLaws.{month_le}
use Rattle.calendar.specs.declared.Epoch.{Epoch}
use Rattle.mapset.specs.Header.{Content, count, tenths, epoch as an_epoch, axis, program, mapping, observables, system as a_system, contents, Said, counts, Accepts, a_count, a_tenths, a_epoch, a_axis, a_program, a_mapping, a_observables, a_system as accepts_system, says, Written, Stand, stand_end, stand_some, stand_none}
use Rattle.mapset.specs.Described.{line_width}
use Rattle.mapset.specs.MapSet.{MapSet}
use Rattle.layout.specs.Records.{Vals}
use Rattle.layout.specs.Labels.{description, head, system, items, content, layout, letters}
use Rattle.layout.specs.Layout.{Slots, Lines, systems, Shows, s_count, s_tenths, s_epoch, s_axis, s_program, s_mapping, s_observables, plain, Heads, h_description, h_field, h_system}
use Rattle.reading.proofs.RecordLaws.{known_head, known_heads}
use Rattle.reading.specs.Head.{Fit, fit, fit_no, FitAll}
use Rattle.reading.proofs.SlotLaws.{system_content}
use Rattle.reading.proofs.HeadLaws.{no_system}
use Rattle.canonical.specs.Canon.{row_of, no_date, date_of, six, shown, system_vals, slot_row, slot_rows, head_rows, description_rows}
use Rattle.canonical.proofs.RowLaws.{Roomy, GoodRow, row_is, row_good}
use Rattle.canonical.proofs.RoomLaws.{six_digits, tenths_eight, tenths_six, wide_end, wide_step}

-- ---- dates

pub date_is : (t : ℕ) → t < after_2199 → DateAt (date_of t) t
unfolding date_of
date_is t h = subst (λ (e : Epoch). DateAt e t) (sym (pick_yes (dec_lt t after_2199) (date_at t) no_date h)) (date_is_at t h)

pub date_room : (e : Epoch) (t : ℕ) → DateAt e t → Roomy (items an_epoch) (six e)
date_room e t d =
    let r = d.real in
    let m = month_le (row e.year) (e.month - 1) in (
      six_digits e.year (omega (arith, r.0)),
      (
        six_digits e.month (omega (arith, r.1.0)),
        (
          six_digits e.day (omega (arith, r.1.1.0)),
          (six_digits e.hour (omega (arith, r.1.1.1.0)), (six_digits e.minute (omega (arith, r.1.1.1.1.0)), (six_digits e.second (omega (arith, r.1.1.1.1.1.0)), tt))),
        ),
      ),
    )

-- ---- what is accepted has room, and is shown

abbrev Bounded : Content → Type 0
Bounded (count low high) = high ≤ 999999
Bounded (tenths low high) = high ≤ 999999
Bounded an_epoch = Unit {0}
Bounded (axis l) = Unit {0}
Bounded program = Unit {0}
Bounded mapping = Unit {0}
Bounded observables = Unit {0}
Bounded a_system = Unit {0}

bounded : (i : ℕ) → i < 15 → Bounded (content i)
bounded i h =
    below (λ i. Bounded (content i)) 15
    (tt, (tt, (tt, (omega arith, (omega arith, (omega arith, (omega arith, (tt, (omega arith, (tt, (omega arith, (omega arith, (tt, (tt, (tt, tt))))))))))))))) i h

accepted : (k : Content) (s : Said) → ¬ (k ≡ a_system) → Bounded k → Accepts k s → Roomy (items k) (shown k s) × Shows k (shown k s) s
accepted (count low high) s n b (a_count {n = m} w) = ((six_digits m (omega (arith, w.1)), tt), s_count)
accepted (tenths low high) s n b (a_tenths {n = m} w) = ((tenths_eight m (omega (arith, w.1)), tt), s_tenths)
accepted an_epoch s n b (a_epoch {t} w) = let d = date_is t w in (date_room (date_of t) t d, s_epoch d)
accepted (axis l) s n b (a_axis {a = a} w) = (
  (
    tenths_six a.first (wide_end l a.first w.first),
    (tenths_six a.last (wide_end l a.last w.last), (tenths_six a.step (wide_step l a.step w.step), tt)),
  ),
  s_axis,
)
accepted program s n b (a_program x y z) = ((x, (y, (z, tt))), s_program)
accepted mapping s n b (a_mapping x) = ((x, tt), s_mapping)
accepted observables s n b (a_observables x) = ((x, tt), s_observables)
accepted a_system s n b a = absurd (n refl)

-- ---- one record

letters_print : (j : ℕ) → j < 7 → (length (get_or letters j 0 ∷ []) ≡ 1) × All (Within 32 126) (get_or letters j 0 ∷ [])
letters_print j h = (
  refl,
  below (λ j. All (Within 32 126) (get_or letters j 0 ∷ [])) 7
      (((omega arith, omega arith), tt), (((omega arith, omega arith), tt), (((omega arith, omega arith), tt), (((omega arith, omega arith), tt), (((omega arith, omega arith), tt), (((omega arith, omega arith), tt), (((omega arith, omega arith), tt), tt))))))) j h,
)

module _ (m : MapSet) (e : ℤ) (left : Slots) (ds : Lines) (rs : List (List ℕ)) where
  field_row : (i : ℕ) (s : Said) → i < 15 → get_or left i none ≡ some s → Accepts (content i) s → Heads m plain e (set left i none) ds rs
      → Heads m plain e left ds (row_of (head i) (shown (content i) s) ∷ rs) × GoodRow (row_of (head i) (shown (content i) s))
  field_row i s l p a h =
      let v : Vals (items (content i)) = shown (content i) s in
      let x = accepted (content i) s (no_system i l) (bounded i l) a in
      (h_field i v l p (row_is (head i) v x.0) x.1 a h, row_good (head i) v (known_head i l) x.0)

  system_row : (j a b : ℕ) → j < 7 → get_or left (15 + j) none ≡ some (counts a b) → Accepts a_system (counts a b) → Heads m plain e (set left (15 + j) none) ds rs
      → Heads m plain e left ds (row_of system (system_vals j (counts a b)) ∷ rs) × GoodRow (row_of system (system_vals j (counts a b)))
  system_row j a b l p (accepts_system u v) h =
      let r : Roomy (layout system) (system_vals j (counts a b)) = (letters_print j l, (six_digits a u.1, (six_digits b v.1, tt))) in
      (h_system j a b l p (row_is system (system_vals j (counts a b)) r) (accepts_system u v) h, row_good system (system_vals j (counts a b)) known_heads.1 r)

  slot_of : (i : ℕ) (s : Said) → i < 22 → get_or left i none ≡ some s → Accepts (content i) s → Heads m plain e (set left i none) ds rs
      → Heads m plain e left ds (slot_row i s ∷ rs) × GoodRow (slot_row i s)
  unfolding slot_row
  slot_of i s l p a h =
      pick_elim (λ r. Heads m plain e left ds (r ∷ rs) × GoodRow r) (dec_lt i systems) (λ k. field_row i s k p a h)
      (λ k.
      let q : i ≡ 15 + (i - 15) = omega arith in
      let c : content i ≡ a_system = ap content q ∙ system_content (i - 15) in
      by s (i - 15) (omega arith) (rw q at p) (rw c at a) (subst (λ n. Heads m plain e (set left n none) ds rs) q h))
    where
      by : (s : Said) (j : ℕ) → j < 7 → get_or left (15 + j) none ≡ some s → Accepts a_system s → Heads m plain e (set left (15 + j) none) ds rs
          → Heads m plain e left ds (row_of system (system_vals j s) ∷ rs) × GoodRow (row_of system (system_vals j s))
      by s j l p (accepts_system {a} {b} u v) h = system_row j a b l p (accepts_system u v) h

-- ---- all of them

abbrev pub clear : List ℕ → Slots → Slots
clear [] left = left
clear (i ∷ is) left = clear is (set left i none)

pub fit_clear : (left : Slots) (i : ℕ) → i < length left → FitAll left → FitAll (set left i none)
fit_clear left i l f j = by (ℕ_discrete j i)
  where
    by : Dec (j ≡ i) → Fit (content j) (get_or (set left i none) j none)
    by (yes e) = rw (e, get_or-set_same left i none none l) fit_no
    by (no n) = rw (get_or-set_other left i j none none n) (f j)

fitting : {k : Content} {s : Said} → Fit k (some s) → Accepts k s
fitting (fit a) = a

pub heads_put : (m : MapSet) (e : ℤ) (ds : Lines) (is : List ℕ) (left : Slots) (rest : List (List ℕ)) → All (λ i. i < 22) is → length left ≡ 22 → FitAll left
    → Heads m plain e (clear is left) ds rest → All GoodRow rest → Heads m plain e left ds (head_rows is left rest) × All GoodRow (head_rows is left rest)
unfolding head_rows
heads_put m e ds [] left rest b z f h g = (h, g)
heads_put m e ds (i ∷ is) left rest b z f h g =
    let n : i < length left = omega (arith, b.0) in
    by (get_or left i none) refl (f i) (heads_put m e ds is (set left i none) rest b.1 (length-set left i none ∙ z) (fit_clear left i n f) h g)
  where
    by : (o : Option Said) → get_or left i none ≡ o → Fit (content i) o
        → Heads m plain e (set left i none) ds (head_rows is (set left i none) rest) × All GoodRow (head_rows is (set left i none) rest)
        → Heads m plain e left ds (slot_rows i o ++ head_rows is (set left i none) rest) × All GoodRow (slot_rows i o ++ head_rows is (set left i none) rest)
    by none q a x =
        let w : set left i none ≡ left = ap (set left i) (sym q) ∙ set-get_or left i none in
        (subst (λ l. Heads m plain e l ds (head_rows is (set left i none) rest)) w x.0, x.1)
    by (some s) q a x = let y = slot_of m e left ds (head_rows is (set left i none) rest) i s b.0 q (fitting a) x.0 in (y.0, (y.1, x.1))

-- the DESCRIPTION lines
pub lines_put : (m : MapSet) (e : ℤ) (left : Slots) (ds : Lines) (rest : List (List ℕ)) → All (Written line_width) ds
    → Heads m plain e left [] rest → All GoodRow rest → Heads m plain e left ds (description_rows ds ++ rest) × All GoodRow (description_rows ds ++ rest)
unfolding description_rows
lines_put m e left [] rest w h g = (h, g)
lines_put m e left (d ∷ ds) rest w h g =
    let r : Roomy (layout description) (d, tt) = (w.0, tt) in
    let x = lines_put m e left ds rest w.1 h g in
    (h_description (row_is description (d, tt) r) x.0, (row_good description (d, tt) known_heads.0 r, x.1))

-- what a header says is accepted
stand_at : (ks : List Content) (ss : Slots) → Stand ks ss → (i : ℕ) → Fit (get_or ks i a_system) (get_or ss i none)
stand_at [] [] stand_end i = fit_no
stand_at (k ∷ ks) (some s ∷ ss) (stand_some a x) zero = fit a
stand_at (k ∷ ks) (some s ∷ ss) (stand_some a x) (suc i) = stand_at ks ss x i
stand_at (k ∷ ks) (none ∷ ss) (stand_none x) zero = fit_no
stand_at (k ∷ ks) (none ∷ ss) (stand_none x) (suc i) = stand_at ks ss x i
stand_at [] (_ ∷ ss) x3 i = elim x3 [ ]
stand_at (k ∷ ks) [] x3 i = elim x3 [ ]

pub says_fit : (m : MapSet) → Stand contents (says m.header m.texts) → FitAll (says m.header m.texts)
says_fit m s i = stand_at contents (says m.header m.texts) s i
