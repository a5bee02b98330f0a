-- A row of the header as the reading takes it, and what an accepted header fits.
use mathlib.Core.Path.{◌≡◌, refl, sym, ap, ap₂, subst, ◌∙◌}
use mathlib.Core.Bool.{true, false}
use mathlib.Core.Option.{Option, none, some}
use mathlib.Core.List.{List, []}
use Prim.Native.Nat.{ℕ, suc, ◌+◌, ◌-◌}
use native.Mathlib.Omega.{arith}
use native.Mathlib.Numerals.{add-one}
use lib.ListN.{length, get_or, take, drop, length-replicate}
use lib.IntN.{ℤ, negsuc}
use Rattle.kit.specs.Answer.{Answer, ok, refused, bind, amap}
use Rattle.kit.proofs.AnswerLaws.{yields}
use Rattle.kit.specs.Range.{Within, Printable}
use Rattle.mapset.specs.declared.Version.{Version}
use Rattle.mapset.specs.declared.Header.{Header}
use Rattle.mapset.specs.declared.Texts.{Texts}
use Rattle.mapset.specs.Described.{lines_width, FullTexts, full}
use Rattle.mapset.specs.Lines.{lines_in, end_to_end, described, no_lines}
use Rattle.mapset.proofs.DescribedLaws.{lines_length, lines_described, described_rules}
use Rattle.mapset.specs.MapSet.{MapSet}
use Rattle.mapset.specs.Grid.{Line, AxisRules}
use Rattle.mapset.specs.Header.{count, axis, Said, a_count, a_axis, starred}
use Rattle.layout.specs.Text.{pad}
use Rattle.layout.specs.Layout.{Slots, Lines, Mode, plain, mode}
use Rattle.read_lines.specs.Leads.{LeadsRow, after_all}
use Rattle.reading.specs.declared.Fault.{Fault}
use Rattle.reading.specs.declared.Why.{Why}
use Rattle.reading.specs.Feed.{answer_of, why, on_line, Feed, over, bad, row, split, feed}
use Rattle.reading.proofs.LineLaws.{Sized, sized}
use Rattle.reading.specs.Maps.{short, run}
use Rattle.reading.specs.declared.Place.TheVariants.{Between}
use Rattle.reading.specs.Head.{Turn, more, done, made, made_texts, head_step, heading, Fit, fit_no, fit, Got}
use Rattle.mapset.specs.Said.{number_in, axis_in}
use Rattle.reading.proofs.SlotLaws.{fit_none, complete_at}
use Rattle.reading.specs.Read.{nothing_yet, version_of, begin, read}
use Rattle.reading.proofs.HeadLaws.{Ends, fine_step}
use Rattle.head_state.specs.Got.{slots_of, texts_of, five, Went, went, ended, gone, turned, stepped}
use Rattle.head_step.specs.Step.{Holds, after, Steps}
use Rattle.head.specs.Opened.{HeaderFits, opened, Keeps, Goes, Stops, handed, Leads, ReadsHeader}
use Rattle.head_state.specs.declared.State.{State}
use Rattle.head.specs.declared.HeaderRead.{HeaderRead}
use Rattle.std.specs.Prelude.{Result, Ok, Err, Some, None, Option as Held, MatchResult, IsErrAnd}

-- ---- a row by what the step tells

gone_ok : (c : Version) (got : Slots) (n : ℕ) (w : Went) (x : Answer Fault Turn) → ok w ≡ amap (gone c got n) x → (t : Turn) × ((x ≡ ok t) × (w ≡ gone c got n t))
unfolding amap
gone_ok c got n w (ok t) e = (t, (refl, cc))
gone_ok c got n w (refused f) e = let z : ◌≡◌ {A = ℕ} 0 1 = cc in absurd (omega arith)

gone_no : (c : Version) (got : Slots) (n : ℕ) (f : Fault) (x : Answer Fault Turn) → refused f ≡ amap (gone c got n) x → x ≡ refused f
unfolding amap
gone_no c got n f (ok t) e = let z : ◌≡◌ {A = ℕ} 0 1 = cc in absurd (omega arith)
gone_no c got n f (refused g) e = cc

went_more : (c : Version) (got : Slots) (n : ℕ) (a : Mode) (e : ℤ) (got' : Slots) (k : ℕ) (t : Turn) → went a e got' k ≡ gone c got n t
    → (ds' : Lines) × ((t ≡ more a e got' ds') × (k ≡ length ds'))
went_more c got n a e got' k (more a₁ e₁ g₁ d₁) q = (d₁, (cc, cc))
went_more c got n a e got' k done q = let z : ◌≡◌ {A = ℕ} 0 1 = cc in absurd (omega arith)

went_done : (c : Version) (got : Slots) (n : ℕ) (h : Header) (x : Texts) (t : Turn) → ended h x ≡ gone c got n t → (t ≡ done) × ((h ≡ made c got n) × (x ≡ five (made_texts got [])))
went_done c got n h x (more a₁ e₁ g₁ d₁) q = let z : ◌≡◌ {A = ℕ} 0 1 = cc in absurd (omega arith)
went_done c got n h x done q = (refl, (cc, cc))

module _ (c : Version) (a : Mode) (e : ℤ) (got : Slots) (ds : Lines) (n : ℕ) (r : List ℕ) (f : Feed) where
  pub heading_more : (a' : Mode) (e' : ℤ) (got' : Slots) (ds' : Lines) → head_step c a e got ds r ≡ ok (more a' e' got' ds') → heading c a e got ds (row n r f) ≡ heading c a' e' got' ds' f
  unfolding heading bind on_line
  heading_more a' e' got' ds' q = rw q refl

  heading_no : (w : Fault) → head_step c a e got ds r ≡ refused w → heading c a e got ds (row n r f) ≡ refused (why w.number n w.column)
  unfolding heading bind on_line
  heading_no w q = rw q refl

  heading_done : (h : Header) (x : FullTexts) (e' : ℤ) → head_step c a e got ds r ≡ ok done → h ≡ made c got (length ds) → x ≡ made_texts got ds → e' ≡ e
      → heading c a e got ds (row n r f)
      ≡ amap (λ w. record { header = h; texts = x; maps = w.1 }) (run h Between (record { exponent = e'; epochs = []; rms = 0; height = 0 }) 0 f)
  unfolding heading bind on_line
  heading_done h x e' q i j k =
      let p : heading c a e got ds (row n r f) ≡ amap (λ w. record { header = made c got (length ds); texts = made_texts got ds; maps = w.1 }) (run (made c got (length ds)) Between (record { exponent = e; epochs = []; rms = 0; height = 0 }) 0 f) = rw q refl in
      p ∙ (λ u. amap (λ w. record { header = sym i u; texts = sym j u; maps = w.1 }) (run (sym i u) Between (record { exponent = sym k u; epochs = []; rms = 0; height = 0 }) 0 f))

-- ---- what an accepted header fits

axis_fits : {l : Line} (o : Option Said) → Fit (axis l) o → ¬ (o ≡ none) → AxisRules l (axis_in o)
axis_fits none fit_no n = absurd (n refl)
axis_fits (some s) (fit (a_axis r)) n = r

maps_fit : (o : Option Said) → Fit (count 1 300) o → ¬ (o ≡ none) → Within 1 300 (number_in o)
maps_fit none fit_no n = absurd (n refl)
maps_fit (some s) (fit (a_count w)) n = w

header_fits : (c : Version) (got : Slots) (ds : Lines) (k : ℕ) (r : List ℕ) → Got got ds → Ends c got k r → HeaderFits (made c got k)
unfolding made
header_fits c got ds k r g x =
    let n : (i : ℕ) → get_or starred i true ≡ false → ¬ (get_or got i none ≡ none) = λ i. complete_at starred got i x.complete in
    record {
      heights = axis_fits (get_or got 12 none) (g.fit 12) (n 12 refl);
      latitudes = axis_fits (get_or got 13 none) (g.fit 13) (n 13 refl);
      longitudes = axis_fits (get_or got 14 none) (g.fit 14) (n 14 refl);
      maps = maps_fit (get_or got 4 none) (g.fit 4) (n 4 refl);
      dimension = x.dimension;
      limits = x.limits;
    }

-- ---- no row

module _ (t : List ℕ) (c : Version) (s : State) (bs : List ℕ) (at n : ℕ) where
  pub stops_over : (m : ℕ) → feed (suc n) (split (drop at t)) ≡ over (suc m) → Stops t c s bs at n bs (Err (why 10 (after_all m) 0))
  unfolding opened heading short
  stops_over m e = record { same = ap (heading c (mode s.aux) s.exponent (slots_of s) (lines_in s.descriptions bs)) e; sound = tt }

  pub stops_bad : (w : Why) → feed (suc n) (split (drop at t)) ≡ bad w → Stops t c s bs at n bs (Err w)
  unfolding opened heading
  stops_bad w e = record { same = ap (heading c (mode s.aux) s.exponent (slots_of s) (lines_in s.descriptions bs)) e; sound = tt }

-- ---- the three ways of a row

module _ (t : List ℕ) (c : Version) (s : State) (bs : List ℕ) (at n start end next m : ℕ) (z : LeadsRow t at n start end next m) (g : Keeps s bs) where
  abbrev here : List ℕ
  here = pad (take (end - start) (drop start t))

  clean : (length here ≡ 80) × Printable here
  clean = (subst Sized z.on (sized (suc n) (split (drop at t)))).0

  abbrev before : Lines
  before = lines_in s.descriptions bs

  abbrev turn : Answer Fault Turn
  turn = head_step c (mode s.aux) s.exponent (slots_of s) before here

  -- the bytes hold the lines that were got
  kept : (s' : State) (bs' : List ℕ) (ds' : Lines) → s'.descriptions ≡ length ds' → bs' ≡ described ds' → Got (slots_of s') ds' → (lines_in s'.descriptions bs' ≡ ds') × Keeps s' bs'
  kept s' bs' ds' k e x =
      let back : lines_in s'.descriptions bs' ≡ ds' = ap₂ lines_in k e ∙ lines_described ds' x.lines in (
        back,
        record {
          holds = record {
            few = omega (arith, x.few);
            whole = ap length e ∙ (described_rules ds' x.few x.lines).written.0;
            tidy = ap described back ∙ sym e;
          };
          got = subst (Got (slots_of s')) (sym back) x;
        },
      )

  goes : (s' : State) (bs' : List ℕ) → ok (went (mode s'.aux) s'.exponent (slots_of s') s'.descriptions) ≡ stepped s c before here
      → bs' ≡ after (turned s c before here) bs → Goes t c s bs at n s' bs' next (m + 1)
  unfolding turned
  goes s' bs' q w =
      let o = gone_ok c (slots_of s) s.descriptions (went (mode s'.aux) s'.exponent (slots_of s') s'.descriptions) turn q in
      let v = went_more c (slots_of s) s.descriptions _ _ _ _ o.0 o.1.1 in
      let ds' : Lines = v.0 in
      let k : turn ≡ ok (more (mode s'.aux) s'.exponent (slots_of s') ds') = o.1.0 ∙ ap ok v.1.0 in
      let x : Got (slots_of s') ds' = (yields turn (fine_step c s.exponent (slots_of s) before g.got here clean.0 clean.1 (mode s.aux)) k).0 in
      let y = kept s' bs' ds' v.1.1 (w ∙ ap (λ u. after u bs) k) x in
      let b = z.after in
      let d = z.ahead in
      let p = z.passed in
      record {
        same =
            ap (heading c (mode s.aux) s.exponent (slots_of s) before) z.on
            ∙ heading_more c (mode s.aux) s.exponent (slots_of s) before (suc m) here (feed (suc (suc m)) (split (drop next t))) _ _ _ ds' k
            ∙ ap₂ (λ (ds : Lines) (i : ℕ). heading c (mode s'.aux) s'.exponent (slots_of s') ds (feed (suc i) (split (drop next t)))) (sym y.0) (sym (add-one m));
        ahead = omega arith;
        within = z.within;
        passed = omega arith;
        keeps = y.1;
      }

  stops_no : (bs' : List ℕ) (f : Fault) → refused f ≡ stepped s c before here → Stops t c s bs at n bs' (Err (why f.number (m + 1) f.column))
  unfolding turned opened
  stops_no bs' f q =
      let o = gone_no c (slots_of s) s.descriptions f turn q in
      record {
        same =
            ap (heading c (mode s.aux) s.exponent (slots_of s) before) z.on
            ∙ heading_no c (mode s.aux) s.exponent (slots_of s) before (suc m) here (feed (suc (suc m)) (split (drop next t))) f o
            ∙ ap (λ (x : ℕ). refused (why f.number x f.column)) (sym (add-one m));
        sound = tt;
      }

  -- the texts of what was got, with the bytes
  texts_full : (x : Texts) (bs' : List ℕ) → x ≡ five (made_texts (slots_of s) []) → bs' ≡ bs → full x bs' ≡ made_texts (slots_of s) before
  unfolding made_texts
  texts_full x bs' e f = ap₂ full e (f ∙ sym g.holds.tidy)

  stops_done : (s' : State) (bs' : List ℕ) (h : Header) → ok (ended h (texts_of s')) ≡ stepped s c before here
      → bs' ≡ after (turned s c before here) bs → Stops t c s bs at n bs' (Ok (handed s h s' next (m + 1)))
  unfolding turned opened
  stops_done s' bs' h q b =
      let e = s.exponent in
      let o = gone_ok c (slots_of s) s.descriptions (ended h (texts_of s')) turn q in
      let w = went_done c (slots_of s) s.descriptions h (texts_of s') o.0 o.1.1 in
      let k : turn ≡ ok done = o.1.0 ∙ ap ok w.0 in
      let y : h ≡ made c (slots_of s) (length before) = w.1.0 ∙ ap (made c (slots_of s)) (sym (lines_length s.descriptions bs)) in
      let f = yields turn (fine_step c s.exponent (slots_of s) before g.got here clean.0 clean.1 (mode s.aux)) k in
      let x : FullTexts = full (texts_of s') bs' in
      let d = z.ahead in
      let p = z.passed in
      record {
        same = ap (heading c (mode s.aux) s.exponent (slots_of s) before) z.on
            ∙ heading_done c (mode s.aux) s.exponent (slots_of s) before (suc m) here (feed (suc (suc m)) (split (drop next t))) h x e k y
            (texts_full (texts_of s') bs' w.1.1 (b ∙ ap (λ u. after u bs) k)) refl
            ∙ ap (λ (j : ℕ). amap (λ v. record { header = h; texts = x; maps = v.1 }) (run h Between (record { exponent = e; epochs = []; rms = 0; height = 0 }) 0 (feed (suc j) (split (drop next t))))) (sym (add-one m));
        sound = record { header = subst HeaderFits (sym y) (header_fits c (slots_of s) before (length before) here g.got f.1); within = z.within; passed = omega arith };
      }

  pub leads_on : (o : Held Header) (s' : State) (bs' : List ℕ) → Steps s c bs here (Ok o) s' bs' → Leads t c s bs at n next (m + 1) o s' bs'
  leads_on None s' bs' q = goes s' bs' q.goes q.lines
  leads_on (Some h) s' bs' q = stops_done s' bs' h q.goes q.lines

  pub leads_no : (f : Fault) (s' : State) (bs' : List ℕ) → Steps s c bs here (Err f) s' bs' → Stops t c s bs at n bs' (Err (why f.number (m + 1) f.column))
  leads_no f s' bs' q = stops_no bs' f q.goes

-- ---- the header's start and end

-- nothing was got yet, and no line stands in the bytes
no_line : Holds 0 no_lines
unfolding no_lines lines_in end_to_end described
no_line = record { few = omega arith; whole = length-replicate {A = ℕ} lines_width 32; tidy = refl }

pub begins : (s : State) (bs : List ℕ) → slots_of s ≡ nothing_yet → s.aux ≡ false → s.exponent ≡ negsuc 0 → s.descriptions ≡ 0 → bs ≡ no_lines
    → Keeps s bs × ((c : Version) (f : Feed) → heading c plain (negsuc 0) nothing_yet [] f ≡ heading c (mode s.aux) s.exponent (slots_of s) (lines_in s.descriptions bs) f)
unfolding lines_in
begins s bs e a x k b =
    let l : lines_in s.descriptions bs ≡ [] = ap (λ n. lines_in n bs) k in (
      record {
        holds = rw (k, b) no_line;
        got = rw (e, l) (record { sized = refl; fit = fit_none 22; few = omega arith; lines = tt });
      },
      λ c f. λ i. heading c (mode (sym a i)) (sym x i) (sym e i) (sym l i) f,
    )

-- ---- the text's first row

module _ (t : List ℕ) where
  pub first_over : (m : ℕ) → feed 1 (split t) ≡ over (suc m) → (bs : List ℕ) → ReadsHeader (read t) t (Err (why 10 (after_all m) 0)) bs
  unfolding read begin short opened
  first_over m e bs = record { same = ap begin e; sound = tt }

  pub first_bad : (w : Why) → feed 1 (split t) ≡ bad w → (bs : List ℕ) → ReadsHeader (read t) t (Err w) bs
  unfolding read begin opened
  first_bad w e bs = record { same = ap begin e; sound = tt }

  module _ (start end next m : ℕ) (z : LeadsRow t 0 0 start end next m) where
    first_row : read t ≡ begin (row (suc m) (pad (take (end - start) (drop start t))) (feed (suc (suc m)) (split (drop next t))))
    unfolding read
    first_row = ap begin z.on

    module _ (x : Result Version Fault) (q : answer_of x ≡ version_of (pad (take (end - start) (drop start t)))) where
      pub first_no : (f : Fault) → x ≡ Err f → (bs : List ℕ) → ReadsHeader (read t) t (Err (why f.number (m + 1) f.column)) bs
      unfolding begin bind on_line opened
      first_no f o bs =
          let e : refused f ≡ version_of (pad (take (end - start) (drop start t))) = ap answer_of (sym o) ∙ q in
          record { same = first_row ∙ (rw (← e) refl) ∙ ap (λ (l : ℕ). refused (why f.number l f.column)) (sym (add-one m)); sound = tt }

      pub first_versioned : (c : Version) → x ≡ Ok c → read t ≡ heading c plain (negsuc 0) nothing_yet [] (feed (suc (m + 1)) (split (drop next t)))
      unfolding begin bind on_line
      first_versioned c o =
          let e : ok c ≡ version_of (pad (take (end - start) (drop start t))) = ap answer_of (sym o) ∙ q in
          first_row ∙ (rw (← e) refl) ∙ ap (λ (l : ℕ). heading c plain (negsuc 0) nothing_yet [] (feed (suc l) (split (drop next t)))) (sym (add-one m))

-- what is read from later on is read from the start
pub continues : (f g : Answer Why MapSet) (t : List ℕ) (r : Result HeaderRead Why) (bs : List ℕ) → f ≡ g → ReadsHeader g t r bs → ReadsHeader f t r bs
continues f g t r bs e o = record { same = e ∙ o.same; sound = o.sound }

-- ---- what `map_err` handed on
pub mapped_ok : {T E D : Type 0} (P : E → D → Type 0) {x : T} (s : Result T E) (r : Result T D) → MatchResult s (λ y. r ≡ Ok y) (λ e. IsErrAnd r (P e)) → r ≡ Ok x → s ≡ Ok x
mapped_ok P (Ok y) r h e = cc
mapped_ok P (Err f) (Ok y) h e = absurd h
mapped_ok P (Err f) (Err w) h e = cc

pub mapped_err : {T E D : Type 0} (P : E → D → Type 0) {w : D} (s : Result T E) (r : Result T D) → MatchResult s (λ y. r ≡ Ok y) (λ e. IsErrAnd r (P e)) → r ≡ Err w → (f : E) × (s ≡ Err f) × P f w
mapped_err P (Ok y) r h e = cc
mapped_err P (Err f) (Ok y) h e = absurd h
mapped_err P (Err f) (Err w) h e = (f, refl, subst (P f) (cc) h)
