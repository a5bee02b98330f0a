-- 01, 'Header records', read row by row: 4, 5, 6, 9, 8, 7 on one row, and within 7 a field's own range before a rule over several fields.
use Rattle.std.specs.Prelude.{◌≡◌, refl, Bool, true, false, List, [], ◌∷◌, ◌++◌, ℕ, suc, ◌+◌, ◌≤◌, get_or, set, drop, ℤ, nat_abs, length}
use Rattle.std.proofs.Math.Option.{Option, none, some}
use Rattle.std.proofs.Common.{arith}
use Rattle.std.proofs.Math.Decide.{ℕ_discrete, dec_lt}
use Rattle.kit.specs.Answer.{Answer, ok, refused, need, bind, amap, get, pick, same, All}
use Rattle.kit.specs.Range.{natural?}
use Rattle.mapset.specs.declared.Version.{Version}
use Rattle.mapset.specs.declared.Header.{Header}
use Rattle.mapset.specs.Described.{most_lines, line_width, FullTexts}
use Rattle.mapset.specs.Lines.{described}
use Rattle.mapset.specs.Header.{Content, count, tenths, epoch as an_epoch, axis, program, mapping, observables, system as a_system, starred, Said, number, along, words, counts, Written, Accepts}
use Rattle.mapset.specs.Decisions.{end?, step?, together?, limits?, dimension?}
use Rattle.mapset.specs.MapSet.{MapSet}
use Rattle.layout.specs.Records.{Vals}
use Rattle.layout.specs.Labels.{Label, version, description, comment, system, exponent, aux_start, aux_end, header_end, epoch, block, file_end, head, start, end, name, items, content, letters}
use Rattle.layout.specs.Layout.{Slots, Lines, systems, Mode, plain, aux, begins, exponent?}
use Rattle.reading.specs.declared.Fault.{Fault}
use Rattle.reading.specs.declared.Why.{Why}
use Rattle.reading.specs.Feed.{fault, on_line, Feed, over, bad, row}
use Rattle.reading.specs.Fields.{label, fields}
use Rattle.reading.specs.Maps.{misplaced, missing, date, on_date, short, run}
use Rattle.reading.specs.declared.Place.TheVariants.{Between}
use Rattle.mapset.specs.Said.{axis_of, number_in, axis_in, words_in, counted_in, system_in}

-- ---- what a record's values say, if they are accepted

unfoldable pub meant : (k : Content) → Vals (items k) → Answer Fault Said
meant (count low high) v = need (natural? low high v.0) (fault 7 1) (ok (number (nat_abs v.0)))
meant (tenths low high) v = need (natural? low high v.0) (fault 7 1) (ok (number (nat_abs v.0)))
meant an_epoch v = on_date (date v) (λ t. ok (number t))
meant (axis l) v =
    need (end? l v.0) (fault 7 3)
    (need (end? l v.1.0) (fault 7 9)
    (need (step? l v.1.1.0) (fault 7 15)
    (need (together? l (axis_of v.0 v.1.0 v.1.1.0)) (fault 7 0)
    (ok (along (axis_of v.0 v.1.0 v.1.1.0))))))
meant program v = ok (words (v.0 ∷ v.1.0 ∷ v.1.1.0 ∷ []))
meant mapping v = ok (words (v.0 ∷ []))
meant observables v = ok (words (v.0 ∷ []))
meant a_system v =
    need (natural? 0 999999 v.1.0) (fault 7 7)
    (need (natural? 0 999999 v.1.1.0) (fault 7 13)
    (ok (counts (nat_abs v.1.0) (nat_abs v.1.1.0))))

abbrev pub next : Option ℕ → Option ℕ
next none = none
next (some i) = some (suc i)

-- the place of a thing in a list
unfoldable pub place : {A : Type 0} → ((x y : A) → Dec (x ≡ y)) → A → List A → Option ℕ
place d x [] = none
place d x (y ∷ ys) = pick (d x y) (some 0) (next (place d x ys))

-- ---- what was got so far, by the places of the header's `contents`, and the DESCRIPTION lines

unfoldable pub none? : (o : Option Said) → Dec (o ≡ none)
none? none = yes refl
none? (some s) = no (λ e. let z : ◌≡◌ {A = ℕ} 0 1 = cc in omega arith)

-- no record is missing but starred ones
abbrev pub Complete : List Bool → Slots → Type 0
Complete [] ss = Unit {0}
Complete (b ∷ bs) [] = ⊥
Complete (true ∷ bs) (s ∷ ss) = Complete bs ss
Complete (false ∷ bs) (none ∷ ss) = ⊥
Complete (false ∷ bs) (some s ∷ ss) = Complete bs ss

unfoldable pub complete? : (bs : List Bool) (ss : Slots) → Dec (Complete bs ss)
complete? [] ss = yes tt
complete? (b ∷ bs) [] = no (λ h. h)
complete? (true ∷ bs) (s ∷ ss) = complete? bs ss
complete? (false ∷ bs) (none ∷ ss) = no (λ h. h)
complete? (false ∷ bs) (some s ∷ ss) = complete? bs ss

-- the header record of what was got, under the version record c, with n DESCRIPTION lines
unfoldable pub made : Version → Slots → ℕ → Header
made c got n =
    record {
      version = c;
      times = record {
        first = number_in (get_or got 1 none);
        last = number_in (get_or got 2 none);
        interval = number_in (get_or got 3 none);
        maps = number_in (get_or got 4 none);
      };
      model = record { cutoff = number_in (get_or got 6 none); radius = number_in (get_or got 10 none); dimension = number_in (get_or got 11 none) };
      grid = record { heights = axis_in (get_or got 12 none); latitudes = axis_in (get_or got 13 none); longitudes = axis_in (get_or got 14 none) };
      stations = counted_in (get_or got 8 none);
      satellites = counted_in (get_or got 9 none);
      systems = record {
        g = system_in (get_or got 15 none);
        r = system_in (get_or got 16 none);
        e = system_in (get_or got 17 none);
        c = system_in (get_or got 18 none);
        j = system_in (get_or got 19 none);
        i = system_in (get_or got 20 none);
        s = system_in (get_or got 21 none);
      };
      descriptions = n;
    }

unfoldable pub made_texts : Slots → Lines → FullTexts
made_texts got ds =
    record {
      program = get_or (words_in (get_or got 0 none)) 0 [];
      agency = get_or (words_in (get_or got 0 none)) 1 [];
      date = get_or (words_in (get_or got 0 none)) 2 [];
      mapping = get_or (words_in (get_or got 5 none)) 0 [];
      observables = get_or (words_in (get_or got 7 none)) 0 [];
      descriptions = described ds;
    }

-- ---- row by row

-- on with the header: whether an aux block is open, the exponent in force, what was got, and the DESCRIPTION lines; or END OF HEADER
pub data Turn : Type 0 where
  more : Mode → ℤ → Slots → Lines → Turn
  done : Turn

-- each record at most once
unfoldable pub once : ℤ → Slots → Lines → ℕ → Answer Fault Said → Answer Fault Turn
once e got ds i x = need (none? (get_or got i none)) (fault 5 61) (bind x (λ s. ok (more plain e (set got i (some s)) ds)))

-- DESCRIPTION: a twenty-first is 5
unfoldable pub on_description : ℤ → Slots → Lines → List ℕ → Answer Fault Turn
on_description e got ds r = need (dec_lt (length ds) most_lines) (fault 5 61) (bind (fields description r) (λ v. ok (more plain e got (ds ++ (v.0 ∷ [])))))

-- SYS once per letter, which is taken as it stands in column 6
unfoldable pub on_system : ℤ → Slots → Lines → List ℕ → Option ℕ → Answer Fault Turn
on_system e got ds r none = bind (fields system r) (λ v. refused (fault 7 6))
on_system e got ds r (some j) = once e got ds (systems + j) (bind (fields system r) (meant a_system))

-- END OF HEADER: 9, 8, 7
unfoldable pub on_end : Version → Slots → ℕ → List ℕ → Answer Fault Turn
on_end c got n r =
    bind (fields header_end r)
    (λ v. need (complete? starred got) missing
    (need (dimension? (made c got n).model.dimension (made c got n).grid.heights) (fault 8 0)
    (need (limits? (made c got n).times.maps (made c got n).grid) (fault 7 0)
    (ok done))))

-- a record of the header, under the version record c, by its label; every other label is misplaced
unfoldable pub at_head : (c : Version) → ℤ → Slots → Lines → Label → List ℕ → Answer Fault Turn
at_head c e got ds description r = on_description e got ds r
at_head c e got ds comment r = bind (fields comment r) (λ v. ok (more plain e got ds))
at_head c e got ds exponent r = bind (fields exponent r) (λ v. need (exponent? v.0) (fault 7 1) (ok (more plain v.0 got ds)))
at_head c e got ds (head i) r = once e got ds i (bind (fields (head i) r) (meant (content i)))
at_head c e got ds system r = on_system e got ds r (place ℕ_discrete (get_or r 5 32) letters)
at_head c e got ds aux_start r = bind (fields aux_start r) (λ v. ok (more aux e got ds))
at_head c e got ds header_end r = on_end c got (length ds) r
at_head c e got ds version r = misplaced
at_head c e got ds aux_end r = misplaced
at_head c e got ds (start k) r = misplaced
at_head c e got ds (end k) r = misplaced
at_head c e got ds epoch r = misplaced
at_head c e got ds block r = misplaced
at_head c e got ds file_end r = misplaced

-- inside an aux block every row but END OF AUX DATA is skipped
unfoldable pub head_step : (c : Version) → Mode → ℤ → Slots → Lines → List ℕ → Answer Fault Turn
head_step c plain e got ds r = get (label r) (fault 4 61) (λ l. at_head c e got ds l r)
head_step c aux e got ds r = pick (same (drop 60 r) (name aux_end)) (bind (fields aux_end r) (λ v. ok (more plain e got ds))) (ok (more aux e got ds))

unfoldable pub heading : (c : Version) → Mode → ℤ → Slots → Lines → Feed → Answer Why MapSet
heading c a e got ds (over n) = short n
heading c a e got ds (bad w) = refused w
heading c a e got ds (row n r f) =
    bind (on_line n (head_step c a e got ds r))
    (λ t. elim t [
      | more a' e' got' ds' ↦ heading c a' e' got' ds' f
      | done ↦ amap (λ w. record { header = made c got (length ds); texts = made_texts got ds; maps = w.1 })
          (run (made c got (length ds)) Between (begins e) 0 f)
    ])

pub data Fit : Content → Option Said → Type 0 where
  fit_no : {k : Content} → Fit k none
  fit : {k : Content} {s : Said} → Accepts k s → Fit k (some s)

abbrev pub FitAll : Slots → Type 0
FitAll got = (i : ℕ) → Fit (content i) (get_or got i none)

-- what was got is of the header's length, and accepted; the lines are few, and 60 printable bytes each
pub record Got (got : Slots) (ds : Lines) : Type 0 where
  pub sized : length got ≡ 22
  pub fit : FitAll got
  pub few : length ds ≤ most_lines
  pub lines : All (Written line_width) ds
