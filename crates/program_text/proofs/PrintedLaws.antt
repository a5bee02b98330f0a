-- What is printed, by what writing and reading tell.
use mathlib.Core.Path.{◌≡◌, refl, sym, ap, subst, ◌∙◌}
use mathlib.Core.List.{List, [], ◌∷◌, ◌++◌}
use mathlib.Core.Option.{Option, none, some}
use Prim.Native.Nat.{ℕ, ◌≤◌, ◌<◌}
use native.Mathlib.Omega.{arith}
use native.Mathlib.Decide.{dec_le}
use lib.ListN.{length, drop, length-append}
use lib.Seq.{take_at}
use Rattle.std.specs.Prelude.{Result, Ok, Err}
use Rattle.kit.specs.Answer.{Answer, ok, refused, pick}
use Rattle.kit.proofs.AnswerLaws.{pick_yes, pick_no}
use Rattle.mapset.specs.declared.Header.{Header}
use Rattle.mapset.specs.Described.{FullTexts}
use Rattle.mapset.specs.Areas.{Areas}
use Rattle.mapset.specs.MapSet.{MapSet}
use Rattle.layout.specs.Layout.{Makes}
use Rattle.reading.specs.declared.Why.{Why}
use Rattle.reading.specs.Read.{read}
use Rattle.reading.proofs.Exact.{read_made}
use Rattle.areas.specs.Flat.{areas}
use Rattle.areas.specs.Fronts.{fronts}
use Rattle.areas.specs.Valid.{Valid}
use Rattle.areas.proofs.Made.{made_formed}
use Rattle.areas.specs.Nesting.{nested}
use Rattle.areas.proofs.ValidFormed.{nested_formed, nested_areas, areas_once, needed_fronts, fronts_valid}
use Rattle.valid.specs.Validity.{validity}
use Rattle.canonical.specs.Canon.{canon}
use Rattle.canonical.specs.CanonOf.{canon_of}
use Rattle.write_text.specs.Write as W
use Rattle.std.specs.Prelude.{Result}
use Rattle.write_text.specs.declared.Unwritten.{Unwritten}
use Rattle.read_needs.specs.Needs.{needed_and_lent, first_short}
use Rattle.read_needs.proofs.ShortLaws.{none_short}
use Rattle.read_outcome.specs.Outcome.{with_room, outcome_of, told_reason, told, texts_in}
use Rattle.read_outcome.proofs.Once.{told_once}
use Rattle.read_text.proofs.Once.{Reads, accepts_exactly}
use Rattle.read_outcome.specs.declared.Reason.{Reason}
use Rattle.read_outcome.specs.declared.ReadOut.{ReadOut}
use Rattle.program_line.specs.Lines.{big_line, need_line, unsound_line, line_of}
use Rattle.program_text.specs.Printed.{fitted, canonical, shown, Stands, answered, Had, needed_and_had, set_printed, answer_printed, printed}

-- ---- after writing into o, which becomes o', y is to be printed

abbrev pub Due : W.ToldWriting → (o' y : List ℕ) → Type 0
Due w o' y = Stands w (length o') × (shown w o' ≡ y)

module _ (h : Header) (t : FullTexts) (a : Areas) (o : List ℕ) where
  by_cases : (x : List ℕ) (d : Dec (Valid h t a)) (e : Dec (length x ≤ length o))
      → let w : W.ToldWriting × List ℕ = pick d (pick e (W.done (length x), x ++ drop (length x) o) (W.refused 30 (length x ∷ []), o)) (W.refused 31 [], o) in
      Due w.0 w.1 (pick d (pick e x (need_line (length x))) unsound_line)
  unfolding pick
  by_cases x (yes v) (yes l) = (omega (arith, length-append x (drop (length x) o)), take_at x (drop (length x) o) (length x) refl)
  by_cases x (yes v) (no n) = (tt, refl)
  by_cases x (no n) (yes l) = (tt, refl)
  by_cases x (no n) (no m) = (tt, refl)

  pub due : (r : Result ℕ Unwritten) (o' : List ℕ) → ◌≡◌ {A = W.ToldWriting × List ℕ} (W.told r, o') (W.written h t a o) → Due (W.told r) o' (canonical (length o) h t a)
  unfolding W.written canonical fitted
  due r o' w =
      subst (λ (z : W.ToldWriting × List ℕ). Due z.0 z.1 (canonical (length o) h t a)) (sym w)
      (by_cases (canon_of h t a) (validity h t a) (dec_le (length (canon_of h t a)) (length o)))

-- ---- after reading into the program's areas

had : (a l : Areas) → Had l → needed_and_lent a l ≡ needed_and_had a
had a l h =
    λ i. (length a.tec, h.tec i)
    ∷ (length a.rms, h.rms i)
    ∷ (length a.height, h.height i)
    ∷ (length a.exponents, h.exponents i)
    ∷ (length a.epochs, h.epochs i)
    ∷ (length a.marks, h.marks i)
    ∷ []

-- what reading leaves is written as the canonical text of what was read
canon_fronts : (m : MapSet) (t : List ℕ) (l : Areas) → Makes m t → canon_of m.header m.texts (fronts (areas m) l) ≡ canon m
unfolding canon_of
canon_fronts m t l k =
    let f = made_formed k in
    let v = fronts_valid m f l in
    let a = fronts (areas m) l in
    ap canon (areas_once (nested m.header m.texts a) m (nested_formed m.header m.texts a v) f refl refl (nested_areas m.header m.texts a v ∙ needed_fronts m f l))

set_canonical : (m : MapSet) (t : List ℕ) (l : Areas) → Makes m t → canonical 65536 m.header m.texts (fronts (areas m) l) ≡ fitted 65536 (canon m)
unfolding canonical
set_canonical m t l k = pick_yes (validity m.header m.texts (fronts (areas m) l)) _ _ (fronts_valid m (made_formed k) l) ∙ ap (fitted 65536) (canon_fronts m t l k)

room_printed : (w : Reason) (m : MapSet) (l : Areas) (s : Option (ℕ × ℕ)) → told_reason w ≡ (with_room m l s).told → line_of (told_reason w) ≡ set_printed m s
unfolding with_room set_printed
room_printed w m l none q =
    let y : Err w ≡ Ok m.header = told_once (Err w) (Ok m.header) q in
    let z : ◌≡◌ {A = ℕ} 0 1 = cc in
    absurd (omega arith)
room_printed w m l (some s) q = ap line_of q

module _ (t : List ℕ) (l : Areas) (r : ReadOut) (l' : Areas) (c : Reads t l r l') (z : Had l) where
  accepted_printed : (h : Header) → r.answer ≡ Ok h → canonical 65536 h (texts_in r) l' ≡ answer_printed (read t)
  unfolding answer_printed set_printed
  accepted_printed h e =
      let (m, (k, (f, g))) = (accepts_exactly t l r l' c).0 (h, e) in
      let p : h ≡ m.header = cc (g.answer, e) in
      (λ i. canonical 65536 (p i) (g.texts i) (g.areas i))
      ∙ set_canonical m t l k
      ∙ sym (ap answer_printed (read_made k) ∙ ap (set_printed m) (sym (ap (first_short 1) (had (areas m) l z)) ∙ none_short 1 (needed_and_lent (areas m) l) f))

  told_printed : (w : Reason) (x : Answer Why MapSet) → told_reason w ≡ (outcome_of x l).told → line_of (told_reason w) ≡ answer_printed x
  unfolding outcome_of answer_printed
  told_printed w (refused y) e = ap line_of e
  told_printed w (ok m) e = room_printed w m l (first_short 1 (needed_and_lent (areas m) l)) e ∙ ap (λ x. set_printed m (first_short 1 x)) (had (areas m) l z)

  refused_printed : (w : Reason) → r.answer ≡ Err w → line_of (told_reason w) ≡ answer_printed (read t)
  refused_printed w e = told_printed w (read t) (sym (ap told e) ∙ ap (λ o. o.told) c)

  pub read_printed : answered 65536 r.answer (texts_in r) l' ≡ answer_printed (read t)
  read_printed = by r.answer refl
    where
      by : (x : Result Header Reason) → r.answer ≡ x → answered 65536 x (texts_in r) l' ≡ answer_printed (read t)
      by (Ok h) e = accepted_printed h e
      by (Err w) e = refused_printed w e

module _ (t : List ℕ) where
  pub printed_big : 32768 < length t → printed t ≡ big_line
  unfolding printed
  printed_big h = pick_no (dec_le (length t) 32768) _ _ (λ g. omega arith)

  pub printed_read : length t ≤ 32768 → printed t ≡ answer_printed (read t)
  unfolding printed
  printed_read h = pick_yes (dec_le (length t) 32768) _ _ h
