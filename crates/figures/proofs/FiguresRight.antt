use Rattle.std.specs.Prelude.{Option, Some, None, Result, Ok, Err}
-- Each row of 01's figures is right: by a test that is computed, and one proof for all rows.
use mathlib.Core.Path.{◌≡◌, refl, ap}
use mathlib.Core.Bool.{Bool, true, false, ◌&&◌}
use mathlib.Core.List.{List, [], ◌∷◌}
use mathlib.Core.Option.{Option as Maybe, none, some}
use Prim.Native.Nat.{ℕ, ◌≤◌}
use native.Mathlib.Omega.{arith}
use lib.Dec.{T, eqb, leb, eqb→eq, leb→le}
use lib.IntN.{ℤ, pos}
use lib.ListN.{length}
use Rattle.kit.specs.Answer.{Answer, ok, refused, All, need, amap, same, sames}
use Rattle.kit.proofs.AnswerLaws.{yields}
use Rattle.kit.specs.Integer.{int?}
use Rattle.kit.specs.Truth.{truth}
use Rattle.kit.proofs.TruthLaws.{truth_ok}
use Rattle.kit.specs.Range.{natural?}
use Rattle.days.specs.Years.{is_leap, month_days, year_days}
use Rattle.calendar.specs.Calendar.{dated, second}
use Rattle.days.specs.Sums.{sum}
use Rattle.calendar.proofs.FieldLaws.{dated_at, dated_ok}
use Rattle.forms.specs.Form.{I}
use Rattle.forms.specs.Read.{read_field, number_of, formed?}
use Rattle.forms.proofs.FieldLaws.{read_made, made_read}
use Rattle.mapset.specs.MapSet.{MapSet}
use Rattle.layout.specs.Text.{pad}
use Rattle.layout.specs.Records.{v_last}
use Rattle.layout.specs.Layout.{Makes}
use Rattle.reading.specs.declared.Fault.{Fault}
use Rattle.reading.specs.declared.Why.{Why}
use Rattle.reading.specs.Feed.{feed, split}
use Rattle.reading.specs.Fields.{number, blank, cells}
use Rattle.reading.specs.Maps.{short}
use Rattle.reading.specs.Read.{begin, read}
use Rattle.reading.proofs.RecordLaws.{cells_yields}
use Rattle.reading.proofs.Exact.{refused_unmade}
use Rattle.ask_round.specs.Rounded.{rounded}
use Rattle.ask_cells.specs.Found.{strip?, after}
use Rattle.ask_nodes.specs.Value.{is_value?, worth, value}
use Rattle.ask_sums.specs.Mean.{by_column, corners, spread, terms, weighted, weight}
use Rattle.ask_sums.specs.Sums.{valued?, mean}
use Rattle.ask.specs.Sample.{header, texts}
use Rattle.ask.proofs.Reckoned.{judged_sound, gives, holds, reckoned, known?, timely?, same_told}
use Rattle.figures.specs.Figures.{Figure, is_second, is_date, no_date, is_number, no_number, is_line, no_text, is_answer, Midnight, Right, table}

abbrev midnight : ℕ → ℕ → ℕ → Result ℕ ℕ
midnight y m d = dated (pos y) (pos m) (pos d) (pos 0) (pos 0) (pos 0)

abbrev is_at : ℕ → Result ℕ ℕ → Bool
is_at t (Ok u) = eqb u t
is_at t (Err c) = false

abbrev is_some : Result ℕ ℕ → Bool
is_some (Ok u) = true
is_some (Err c) = false

abbrev is_none : Result ℕ ℕ → Bool
is_none (Ok u) = false
is_none (Err c) = true

abbrev is_field : ℤ → Option ℤ → Bool
is_field z (Some y) = truth (int? y z)
is_field z None = false

abbrev is_bad : Option ℤ → Bool
is_bad (Some y) = false
is_bad None = true

abbrev is_row : List ℤ → Answer Fault (List ℤ) → Bool
is_row zs (ok ys) = truth (sames int? ys zs)
is_row zs (refused f) = false

abbrev is_refused : Answer Why MapSet → Bool
is_refused (ok m) = false
is_refused (refused w) = true

abbrev test : Figure → Bool
test (is_second y m d t) = is_at t (midnight y m d)
test (is_date y m d) = is_some (midnight y m d)
test (no_date y m d) = is_none (midnight y m d)
test (is_number f z) = eqb (length f) 5 && is_field z (read_field I f)
test (no_number f) = is_bad (read_field I f)
test (is_line l zs) = leb 1 (length zs) && (leb (length zs) 16 && (eqb (length (pad l)) 80 && is_row zs (cells 1 (length zs) (pad l))))
test (no_text t) = is_refused (read t)
test (is_answer q a) = holds q (gives a)

both : (a b : Bool) → T (a && b) → T a × T b
both true b t = (tt, t)
both false b t = absurd t

at_ok : (t : ℕ) (x : Result ℕ ℕ) → T (is_at t x) → x ≡ Ok t
at_ok t (Ok u) h = ap Ok (eqb→eq u t h)
at_ok t (Err c) h = absurd h

sound : (f : Figure) → T (test f) → Right f
sound (is_second y m d t) h = dated_ok (pos y) (pos m) (pos d) (pos 0) (pos 0) (pos 0) t (at_ok t (midnight y m d) h)
sound (is_date y m d) h = by (midnight y m d) refl h
  where
    by : (x : Result ℕ ℕ) → midnight y m d ≡ x → T (is_some x) → (t : ℕ) × Midnight y m d t
    by (Ok t) e h = (t, dated_ok (pos y) (pos m) (pos d) (pos 0) (pos 0) (pos 0) t e)
    by (Err c) e h = absurd h
sound (no_date y m d) h = λ t x. by (midnight y m d) h (dated_at (pos y) (pos m) (pos d) (pos 0) (pos 0) (pos 0) t x)
  where
    by : (x : Result ℕ ℕ) {t : ℕ} → T (is_none x) → ¬ (x ≡ Ok t)
    by (Ok u) h e = h
    by (Err c) {t} h e = let z : ◌≡◌ {A = ℕ} 0 1 = cc in omega arith
sound (is_number f z) h = let b = both (eqb (length f) 5) _ h in rw (eqb→eq (length f) 5 b.0) at (made_read f (field_ok z (read_field I f) b.1))
  where
    field_ok : (z : ℤ) (x : Option ℤ) → T (is_field z x) → x ≡ Some z
    field_ok z (Some y) h = ap Some (truth_ok (int? y z) h)
    field_ok z None h = absurd h
sound (no_number f) h = λ z x. by (read_field I f) h (read_made x)
  where
    by : (x : Option ℤ) {z : ℤ} → T (is_bad x) → ¬ (x ≡ Some z)
    by (Some y) h e = h
    by None {z} h e = let z : ◌≡◌ {A = ℕ} 0 1 = cc in omega arith
sound (is_line l zs) h =
    let a = both (leb 1 (length zs)) _ h in
    let b = both (leb (length zs) 16) _ a.1 in
    let c = both (eqb (length (pad l)) 80) _ b.1 in
    let n : length zs ≤ 16 = leb→le (length zs) 16 b.0 in
    let w : length (pad l) ≡ 80 = eqb→eq (length (pad l)) 80 c.0 in
    let x = yields _ (cells_yields 1 (length zs) (pad l) (omega arith)) (row_ok zs (cells 1 (length zs) (pad l)) c.1) in
    v_last (leb→le 1 (length zs) a.0) n w x.0
  where
    row_ok : (zs : List ℤ) (x : Answer Fault (List ℤ)) → T (is_row zs x) → x ≡ ok zs
    row_ok zs (ok ys) h = ap ok (truth_ok (sames int? ys zs) h)
    row_ok zs (refused f) h = absurd h
sound (no_text t) h = by (read t) refl h
  where
    by : (x : Answer Why MapSet) → read t ≡ x → T (is_refused x) → (m : MapSet) → ¬ Makes m t
    by (ok m) e h = absurd h
    by (refused w) e h = refused_unmade t e
sound (is_answer q a) h = reckoned q (gives a) h

-- the first row that fails its test
abbrev or_next : Bool → Figure → Maybe Figure → Maybe Figure
or_next true f o = o
or_next false f o = some f

abbrev wrong : List Figure → Maybe Figure
wrong [] = none
wrong (f ∷ fs) = or_next (test f) f (wrong fs)

passed : (b : Bool) (f : Figure) (o : Maybe Figure) → or_next b f o ≡ none → T b × (o ≡ none)
passed true f o e = (tt, e)
passed false f o e = let z : ◌≡◌ {A = ℕ} 0 1 = cc in absurd (omega arith)

all_right : (fs : List Figure) → wrong fs ≡ none → All Right fs
all_right [] h = tt
all_right (f ∷ fs) h = let b = passed (test f) f (wrong fs) h in (sound f b.0, all_right fs b.1)

pub figures : All Right table
unfolding table dated second sum year_days month_days is_leap natural? read_field number_of formed? same sames cells number blank pad need amap read begin feed split
    short header texts judged_sound known? timely? same_told strip? after rounded mean valued? weighted weight terms spread corners by_column value worth is_value?
figures = all_right table refl
