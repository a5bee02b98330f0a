-- 01, 'Maps', read row by row. On one row the order is 4, 5, 6, 9, 8, 7: each test is a `need`, and they stand in that order.
use Rattle.std.specs.Prelude.{◌≡◌, refl, Bool, true, false, ℕ, zero, suc, ◌-◌, ◌/◌, ◌%◌, List, [], ◌∷◌, ◌++◌, length, get_or, ℤ, pos, nat_abs, Result, Ok, Err}
use Rattle.std.proofs.Common.{arith}
use Rattle.std.proofs.Math.Decide.{ℕ_discrete, dec_le, dec_lt}
use Rattle.kit.specs.Answer.{Answer, ok, refused, need, bind, amap, get, pick, ×_dec, ⊎_dec}
use Rattle.kit.specs.Range.{natural?}
use Rattle.kit.specs.Integer.{int?}
use Rattle.calendar.specs.Calendar.{dated}
use Rattle.mapset.specs.declared.Kind.{Kind}
use Rattle.mapset.specs.declared.Kind.TheVariants.{Tec, Rms, Height}
use Rattle.mapset.specs.declared.Header.{Header}
use Rattle.mapset.specs.Grid.{rows, columns}
use Rattle.mapset.specs.Decisions.{follows?}
use Rattle.mapset.specs.MapSet.{Block, TecMap, Maps}
use Rattle.layout.specs.Labels.{Label, version, description, comment, system, exponent, aux_start, aux_end, header_end, epoch, block, file_end, head, start, end}
use Rattle.layout.specs.Layout.{Force, under, with_epoch, last_of, with_last, one_more, one_tec, Date, After, InTime, per_map, node, HeightOf, exponent?}
use Rattle.reading.specs.declared.Fault.{Fault}
use Rattle.reading.specs.declared.Why.{Why}
use Rattle.reading.specs.Feed.{fault, why, on_line, Feed, over, bad, row}
use Rattle.reading.specs.Fields.{label, fields, cells}
use Rattle.reading.specs.declared.Open.{Open}
use Rattle.reading.specs.declared.Place.{Place}
use Rattle.reading.specs.declared.Place.TheVariants.{Ended, Between, Early, Inside}

-- what is handed back from a place on
abbrev pub Todo : Place → Type 0
Todo Ended = Unit {0}
Todo Between = Maps
Todo Early = TecMap × Maps
Todo (Inside o) = List Block × Maps

-- a row that is taken: the next place, what is then in force, how many values come first, and how what is read from there on is handed back
pub record Next (q : Place) : Type 0 where
  pub to : Place
  pub force : Force
  pub due : ℕ
  pub back : List ℤ → Todo to → Todo q

abbrev pub Step : Place → Type 0
Step q = Answer Fault (Next q)

-- no values come
abbrev pub goes : {q : Place} (to : Place) → Force → (Todo to → Todo q) → Step q
goes to p f = ok (record { to = to; force = p; due = 0; back = λ zs. f })

abbrev pub stays : (q : Place) → Force → Step q
stays q p = goes q p (λ w. w)

-- ---- refusals
abbrev pub misplaced : {A : Type 0} → Answer Fault A
misplaced = refused (fault 5 61)

abbrev pub missing : Fault
missing = fault 9 0

abbrev pub disagrees : ℕ → Fault
disagrees c = fault 8 c

-- the second of six numbers that are a date
abbrev pub date : Date → Result ℕ ℕ
date d = dated d.0 d.1.0 d.1.1.0 d.1.1.1.0 d.1.1.1.1.0 d.1.1.1.1.1.0

-- no epoch at all is 7 at its first wrong field
unfoldable pub on_date : {A : Type 0} → Result ℕ ℕ → (ℕ → Answer Fault A) → Answer Fault A
on_date (Ok t) f = f t
on_date (Err c) f = refused (fault 7 c)

unfoldable pub kind? : (a b : Kind) → Dec (a ≡ b)
kind? Tec Tec = yes refl
kind? Tec Rms = no (λ e. let z : ◌≡◌ {A = ℕ} 0 1 = cc in omega arith)
kind? Tec Height = no (λ e. let z : ◌≡◌ {A = ℕ} 0 1 = cc in omega arith)
kind? Rms Tec = no (λ e. let z : ◌≡◌ {A = ℕ} 0 1 = cc in omega arith)
kind? Rms Rms = yes refl
kind? Rms Height = no (λ e. let z : ◌≡◌ {A = ℕ} 0 1 = cc in omega arith)
kind? Height Tec = no (λ e. let z : ◌≡◌ {A = ℕ} 0 1 = cc in omega arith)
kind? Height Rms = no (λ e. let z : ◌≡◌ {A = ℕ} 0 1 = cc in omega arith)
kind? Height Height = yes refl

unfoldable pub true? : (b : Bool) → Dec (b ≡ true)
true? true = yes refl
true? false = no (λ e. let z : ◌≡◌ {A = ℕ} 0 1 = cc in omega arith)

unfoldable pub after? : (h : Header) (es : List ℕ) (e : ℕ) → Dec (After h es e)
after? h [] e = ℕ_discrete e h.times.first
after? h (x ∷ xs) e = follows? h.times.interval (get_or (x ∷ xs) (length xs) 0) e

unfoldable pub implies? : {P Q : Type 0} → Dec P → Dec Q → Dec (P → Q)
implies? (yes p) (yes q) = yes (λ _. q)
implies? (yes p) (no n) = no (λ f. n (f p))
implies? (no n) q = yes (λ p. absurd (n p))

unfoldable pub in_time? : (h : Header) (es : List ℕ) (e : ℕ) → Dec (InTime h es e)
in_time? h past e = ×_dec (after? h past e) (implies? (ℕ_discrete (suc (length past)) h.times.maps) (ℕ_discrete e h.times.last))

unfoldable pub height? : (h : Header) (d : ℕ) (z : ℤ) → Dec (HeightOf h d z)
height? h d z = ⊎_dec (ℕ_discrete h.model.dimension 2) (int? z (node h.grid.heights (d / rows h.grid)))

-- ---- the records of the maps

-- EXPONENT and COMMENT may stand anywhere before END OF FILE
unfoldable pub loose : {A : Type 0} → Place → Answer Fault A → Answer Fault A
loose Ended x = misplaced
loose Between x = x
loose Early x = x
loose (Inside o) x = x

unfoldable pub on_comment : (q : Place) (p : Force) → List ℕ → Step q
on_comment q p r = loose q (bind (fields comment r) (λ v. stays q p))

unfoldable pub on_exponent : (q : Place) (p : Force) → List ℕ → Step q
on_exponent q p r = loose q (bind (fields exponent r) (λ v. need (exponent? v.0) (fault 7 1) (stays q (under v.0 p))))

-- START: the next TEC map, if there is to be one; or an RMS or height map of a TEC map that has ended, above the last of its kind
unfoldable pub start_tec : (h : Header) (p : Force) → List ℕ → Step Between
start_tec h p r =
    bind (fields (start Tec) r)
    (λ v. need (×_dec (int? v.0 (pos (suc (length p.epochs)))) (dec_lt (length p.epochs) h.times.maps)) (disagrees 1)
    (goes Early p (λ w. one_tec w.0 w.1)))

unfoldable pub start_other : (k : Kind) (h : Header) (p : Force) → List ℕ → Step Between
start_other k h p r =
    bind (fields (start k) r)
    (λ v. need (natural? (suc (last_of k p)) (length p.epochs) v.0) (disagrees 1)
    (goes (Inside (record { fresh = true; kind = k; number = nat_abs v.0; left = per_map h })) (with_last k (nat_abs v.0) p)
    (λ w. one_more k (record { of = nat_abs v.0; blocks = w.0 }) w.1)))

unfoldable pub start_map : (k : Kind) (h : Header) (p : Force) → List ℕ → Step Between
start_map Tec h p r = start_tec h p r
start_map Rms h p r = start_other Rms h p r
start_map Height h p r = start_other Height h p r

unfoldable pub on_start : (h : Header) (q : Place) (p : Force) (k : Kind) → List ℕ → Step q
on_start h Ended p k r = misplaced
on_start h Between p k r = start_map k h p r
on_start h Early p k r = misplaced
on_start h (Inside o) p k r = misplaced

-- END: of the open map's kind; its blocks are all there, and it carries its START's number
unfoldable pub end_map : (o : Open) (p : Force) (k : Kind) → List ℕ → Step (Inside o)
end_map o p k r =
    need (kind? k o.kind) (fault 5 61)
    (bind (fields (end k) r)
    (λ v. need (ℕ_discrete o.left 0) missing (need (int? v.0 (pos o.number)) (disagrees 1) (goes Between p (λ w. ([], w))))))

unfoldable pub on_end : (h : Header) (q : Place) (p : Force) (k : Kind) → List ℕ → Step q
on_end h Ended p k r = misplaced
on_end h Between p k r = misplaced
on_end h Early p k r = need (kind? k Tec) (fault 5 61) (bind (fields (end k) r) (λ v. refused missing))
on_end h (Inside o) p k r = end_map o p k r

-- on with x where `in_time?` holds; written out, so that it can be read without the statement of that
abbrev pub in_order : {A : Type 0} → (h : Header) (es : List ℕ) (e : ℕ) → Answer Fault A → Answer Fault A
in_order h es e x = need (×_dec (after? h es e) (implies? (ℕ_discrete (suc (length es)) h.times.maps) (ℕ_discrete e h.times.last))) (disagrees 1) x

-- EPOCH OF CURRENT MAP: a TEC map's, in time; or, once before its first block, that of an RMS or height map, which is its TEC map's
unfoldable pub epoch_tec : (h : Header) (p : Force) → List ℕ → Step Early
epoch_tec h p r =
    bind (fields epoch r)
    (λ d. on_date (date d) (λ t. in_order h p.epochs t
    (goes (Inside (record { fresh = false; kind = Tec; number = suc (length p.epochs); left = per_map h })) (with_epoch t p)
    (λ w. (record { epoch = t; blocks = w.0 }, w.1)))))

abbrev pub settled : Open → Open
settled o = record { fresh = false; kind = o.kind; number = o.number; left = o.left }

unfoldable pub epoch_other : (o : Open) (p : Force) → List ℕ → Step (Inside o)
epoch_other o p r =
    need (true? o.fresh) (fault 5 61)
    (bind (fields epoch r)
    (λ d. on_date (date d) (λ t. need (ℕ_discrete t (get_or p.epochs (o.number - 1) 0)) (disagrees 1) (goes (Inside (settled o)) p (λ w. w)))))

unfoldable pub on_epoch : (h : Header) (q : Place) (p : Force) → List ℕ → Step q
on_epoch h Ended p r = misplaced
on_epoch h Between p r = misplaced
on_epoch h Early p r = epoch_tec h p r
on_epoch h (Inside o) p r = epoch_other o p r

-- LAT/LON1/LON2/DLON/H: while blocks are left; all must equal the grid's
abbrev pub one_less : Open → Open
one_less o = record { fresh = false; kind = o.kind; number = o.number; left = o.left - 1 }

unfoldable pub open_block : (h : Header) (o : Open) (p : Force) → List ℕ → Step (Inside o)
open_block h o p r =
    need (dec_le 1 o.left) (fault 5 61)
    (bind (fields block r)
    (λ v. need (int? v.0 (node h.grid.latitudes ((per_map h - o.left) % rows h.grid))) (disagrees 3)
    (need (int? v.1.0 h.grid.longitudes.first) (disagrees 9)
    (need (int? v.1.1.0 h.grid.longitudes.last) (disagrees 15)
    (need (int? v.1.1.1.0 h.grid.longitudes.step) (disagrees 21)
    (need (height? h (per_map h - o.left) v.1.1.1.1.0) (disagrees 27)
    (ok (record {
      to = Inside (one_less o);
      force = p;
      due = columns h.grid;
      back = λ zs w. (record { exponent = p.exponent; values = zs } ∷ w.0, w.1);
    }))))))))

unfoldable pub on_block : (h : Header) (q : Place) (p : Force) → List ℕ → Step q
on_block h Ended p r = misplaced
on_block h Between p r = misplaced
on_block h Early p r = misplaced
on_block h (Inside o) p r = open_block h o p r

-- END OF FILE: with no map open, when n TEC maps have ended
unfoldable pub on_file : (h : Header) (q : Place) (p : Force) → List ℕ → Step q
on_file h Ended p r = misplaced
on_file h Between p r =
    bind (fields file_end r)
    (λ v. need (ℕ_discrete (length p.epochs) h.times.maps) missing (goes Ended p (λ w. record { tec = []; rms = []; height = [] })))
on_file h Early p r = misplaced
on_file h (Inside o) p r = misplaced

-- a record of the maps, by its label; every other label is misplaced
unfoldable pub taken : (h : Header) (q : Place) (p : Force) → Label → List ℕ → Step q
taken h q p comment r = on_comment q p r
taken h q p exponent r = on_exponent q p r
taken h q p (start k) r = on_start h q p k r
taken h q p (end k) r = on_end h q p k r
taken h q p epoch r = on_epoch h q p r
taken h q p block r = on_block h q p r
taken h q p file_end r = on_file h q p r
taken h q p version r = misplaced
taken h q p description r = misplaced
taken h q p system r = misplaced
taken h q p aux_start r = misplaced
taken h q p aux_end r = misplaced
taken h q p header_end r = misplaced
taken h q p (head i) r = misplaced

unfoldable pub step : (h : Header) (q : Place) (p : Force) → List ℕ → Step q
step h q p r = get (label r) (fault 4 61) (λ l. taken h q p l r)

-- ---- row by row, with c values of a block still to come

-- the text ends before END OF FILE, with n the number of its lines + 1: a line number is at most 18,446,744,073,709,551,615
unfoldable pub short : {A : Type 0} → ℕ → Answer Why A
short n = refused (why 10 (pick (dec_le n 18446744073709551615) n 18446744073709551615) 0)

unfoldable pub finish : (q : Place) (n : ℕ) → Answer Why (List ℤ × Todo q)
finish Ended n = ok ([], tt)
finish Between n = short n
finish Early n = short n
finish (Inside o) n = short n

-- 16 values to a row, the last row holding the rest
abbrev pub on_row : ℕ → ℕ
on_row c = c - (c - 16)

unfoldable pub run : (h : Header) (q : Place) (p : Force) (c : ℕ) → Feed → Answer Why (List ℤ × Todo q)
run h q p zero (over n) = finish q n
run h q p (suc c) (over n) = short n
run h q p zero (bad w) = refused w
run h q p (suc c) (bad w) = refused w
run h q p zero (row n r f) =
    bind (on_line n (step h q p r)) (λ x. amap (λ w. ([], x.back w.0 w.1)) (run h x.to x.force x.due f))
run h q p (suc c) (row n r f) =
    bind (on_line n (cells 1 (on_row (suc c)) r)) (λ zs. amap (λ w. (zs ++ w.0, w.1)) (run h q p (suc c - 16) f))
