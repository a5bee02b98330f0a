-- What was got of a header and what is left of it, together; and the header record that was got.
use mathlib.Core.Path.{◌≡◌, refl, sym, ap, ◌∙◌}
use mathlib.Core.Bool.{Bool, true, false}
use mathlib.Core.Option.{Option, none, some}
use mathlib.Core.List.{List, [], ◌∷◌}
use Prim.Native.Nat.{ℕ, zero, suc, ◌+◌, ◌<◌}
use native.Mathlib.Omega.{arith}
use native.Mathlib.Decide.{ℕ_discrete}
use lib.ListN.{length, get_or, set, replicate}
use lib.Seq.{get_or-set_same, get_or-set_other, get_or-drop}
use Rattle.kit.specs.Answer.{All}
use Rattle.mapset.specs.declared.Counted.{Counted}
use Rattle.mapset.specs.declared.System.{System}
use Rattle.mapset.specs.declared.Version.{Version}
use Rattle.mapset.specs.declared.Header.{Header}
use Rattle.mapset.specs.Described.{FullTexts}
use Rattle.mapset.specs.Lines.{lines_in}
use Rattle.mapset.proofs.DescribedLaws.{lines_length, described_lines}
use Rattle.mapset.specs.Grid.{Line}
use Rattle.mapset.specs.Header.{count, tenths, epoch as an_epoch, axis, program, mapping, observables, system as a_system, contents, starred, Said, number, along, words, counts, Accepts, a_count, a_tenths, a_epoch, a_axis, a_program, a_mapping, a_observables, a_system as accepts_system, if_stands, counted, of_system, says, Filled, Fillers, DescriptionRules}
use Rattle.layout.specs.Labels.{content}
use Rattle.layout.specs.Layout.{Slots, Lines}
use Rattle.reading.specs.Head.{Complete, made, made_texts, Fit, fit_no, fit, FitAll}
use Rattle.mapset.specs.Said.{number_in, axis_in, words_in, counted_in, system_in}

-- ---- what was got and what is left

pub data Joined : Slots → Slots → Slots → Type 0 where
  j_end : Joined [] [] []
  j_got : {s : Said} {gs ls hs : Slots} → Joined gs ls hs → Joined (some s ∷ gs) (none ∷ ls) (some s ∷ hs)
  j_left : {o : Option Said} {gs ls hs : Slots} → Joined gs ls hs → Joined (none ∷ gs) (o ∷ ls) (o ∷ hs)

none_some : {s : Said} {X : Type 0} → none ≡ some s → X
none_some {s} e = let z : ◌≡◌ {A = ℕ} 0 1 = cc in absurd (omega arith)

some_none : {s : Said} {X : Type 0} → some s ≡ none → X
some_none {s} e = let z : ◌≡◌ {A = ℕ} 0 1 = cc in absurd (omega arith)

-- one that is left is got
pub taken : {gs ls hs : Slots} {s : Said} (i : ℕ) → Joined gs ls hs → get_or ls i none ≡ some s
    → (get_or gs i none ≡ none) × Joined (set gs i (some s)) (set ls i none) hs
taken i j_end e = none_some e
taken zero (j_got j) e = none_some e
taken zero (j_left j) e = (refl, rw e (j_got j))
taken (suc i) (j_got j) e = let t = taken i j e in (t.0, j_got t.1)
taken (suc i) (j_left j) e = let t = taken i j e in (t.0, j_left t.1)

-- nothing is left
pub full : {gs ls hs : Slots} → Joined gs ls hs → All (λ o. o ≡ none) ls → gs ≡ hs
full j_end a = refl
full (j_got j) a = rw (full j a.1)
full (j_left j) a = rw (full j a.1, a.0)

-- nothing was got
pub empty : {gs ls hs : Slots} → Joined gs ls hs → All (λ o. o ≡ none) gs → ls ≡ hs
empty j_end a = refl
empty (j_got j) a = some_none a.0
empty (j_left j) a = rw (empty j a.1)

pub unjoined : (hs : Slots) → Joined (replicate (length hs) none) hs hs
unjoined [] = j_end
unjoined (h ∷ hs) = j_left (unjoined hs)

-- one that was got was left
pub untaken : {ls hs : Slots} {s : Said} (i : ℕ) (gs : Slots) → i < length gs → get_or gs i none ≡ none → Joined (set gs i (some s)) ls hs
    → Joined gs (set ls i (some s)) hs × (get_or (set ls i (some s)) i none ≡ some s) × (set (set ls i (some s)) i none ≡ ls)
untaken i [] l e j = absurd (omega arith)
untaken zero (none ∷ gs) l e (j_got j) = (j_left j, refl, refl)
untaken zero (some x ∷ gs) l e j = some_none e
untaken (suc i) (none ∷ gs) l e (j_left j) = let t = untaken i gs (omega arith) e j in (j_left t.0, t.1, rw t.2)
untaken (suc i) (some x ∷ gs) l e (j_got j) = let t = untaken i gs (omega arith) e j in (j_got t.0, t.1, rw t.2)

pub rest_none : (gs : Slots) → (ls : Slots) × Joined gs ls gs × All (λ o. o ≡ none) ls
rest_none [] = ([], j_end, tt)
rest_none (none ∷ gs) = let t = rest_none gs in (none ∷ t.0, j_left t.1, (refl, t.2))
rest_none (some v ∷ gs) = let t = rest_none gs in (none ∷ t.0, j_got t.1, (refl, t.2))

-- ---- what was got is accepted

pub fit_none : (n : ℕ) → FitAll (replicate n none)
fit_none n i = rw (no_slot n i) fit_no
  where
    no_slot : (n i : ℕ) → get_or {A = Option Said} (replicate n none) i none ≡ none
    no_slot zero i = refl
    no_slot (suc n) zero = refl
    no_slot (suc n) (suc i) = no_slot n i

pub fit_set : (got : Slots) (i : ℕ) (s : Said) → i < length got → FitAll got → Accepts (content i) s → FitAll (set got i (some s))
fit_set got i s l f a j = by (ℕ_discrete j i)
  where
    by : Dec (j ≡ i) → Fit (content j) (get_or (set got i (some s)) j none)
    by (yes e) = rw (e, get_or-set_same got i (some s) none l) (fit a)
    by (no n) = rw (get_or-set_other got i j (some s) none n) (f j)

-- ---- the header record of what a header says

counted_back : (b : Bool) (n : ℕ) → Filled b n → counted_in (if_stands b (number n)) ≡ record { stands = b; count = n }
counted_back true n f = refl
counted_back false n f = λ i. record { stands = false; count = sym f i }

system_back : (b : Bool) (m n : ℕ) → Filled b m × Filled b n → system_in (if_stands b (counts m n)) ≡ record { stands = b; stations = m; satellites = n }
system_back true m n f = refl
system_back false m n f = λ i. record { stands = false; stations = sym f.0 i; satellites = sym f.1 i }

back_counted : (c : Counted) → Filled c.stands c.count → counted_in (counted c) ≡ c
back_counted c f = counted_back c.stands c.count f

back_system : (s : System) → Filled s.stands s.stations × Filled s.stands s.satellites → system_in (of_system s) ≡ s
back_system s f = system_back s.stands s.stations s.satellites f

abbrev pub lines_left : Header → FullTexts → Lines
lines_left h t = lines_in h.descriptions t.descriptions

pub made_says : (h : Header) (t : FullTexts) → Fillers h → made h.version (says h t) (length (lines_left h t)) ≡ h
unfolding made
made_says h t f = λ i. record {
  version = h.version;
  times = h.times;
  model = h.model;
  grid = h.grid;
  stations = back_counted h.stations f.stations i;
  satellites = back_counted h.satellites f.satellites i;
  systems = record {
    g = back_system h.systems.g f.g i;
    r = back_system h.systems.r f.r i;
    e = back_system h.systems.e f.e i;
    c = back_system h.systems.c f.c i;
    j = back_system h.systems.j f.j i;
    i = back_system h.systems.i f.i i;
    s = back_system h.systems.s f.s i;
  };
  descriptions = lines_length h.descriptions t.descriptions i;
}

pub texts_says : (h : Header) (t : FullTexts) → DescriptionRules h.descriptions t.descriptions → made_texts (says h t) (lines_left h t) ≡ t
unfolding made_texts
texts_says h t r = λ i. record {
  program = t.program;
  agency = t.agency;
  date = t.date;
  mapping = t.mapping;
  observables = t.observables;
  descriptions = described_lines h.descriptions t.descriptions r i;
}

pub complete_says : (h : Header) (t : FullTexts) → Complete starred (says h t)
complete_says h t = tt

-- ---- what the header record says that was made of what was got

-- what stands at n places of a list, from the i-th on
abbrev at_all : {A : Type 0} → (i n : ℕ) → List A → A → List A
at_all i zero l d = []
at_all i (suc n) l d = get_or l i d ∷ at_all (suc i) n l d

later : {A : Type 0} (i n : ℕ) (x : A) (l : List A) (d : A) → at_all (suc i) n (x ∷ l) d ≡ at_all i n l d
later i zero x l d = refl
later i (suc n) x l d = ap (λ m. get_or l i d ∷ m) (later (suc i) n x l d)

listed : {A : Type 0} (l : List A) (d : A) → at_all 0 (length l) l d ≡ l
listed [] d = refl
listed (x ∷ l) d = ap (λ m. x ∷ m) (later 0 (length l) x l d ∙ listed l d)

-- a record that is not starred stands
pub complete_at : (bs : List Bool) (ss : Slots) (i : ℕ) → Complete bs ss → get_or bs i true ≡ false → ¬ (get_or ss i none ≡ none)
complete_at [] ss i c e = λ _. let z : ◌≡◌ {A = ℕ} 0 1 = cc in omega arith
complete_at (b ∷ bs) [] i c e = absurd c
complete_at (true ∷ bs) (s ∷ ss) zero c e = λ _. let z : ◌≡◌ {A = ℕ} 0 1 = cc in omega arith
complete_at (true ∷ bs) (s ∷ ss) (suc i) c e = complete_at bs ss i c e
complete_at (false ∷ bs) (none ∷ ss) i c e = absurd c
complete_at (false ∷ bs) (some s ∷ ss) zero c e = some_none
complete_at (false ∷ bs) (some s ∷ ss) (suc i) c e = complete_at bs ss i c e

-- what stands says what was made of it
count_back : {low high : ℕ} (o : Option Said) → Fit (count low high) o → ¬ (o ≡ none) → some (number (number_in o)) ≡ o
count_back none fit_no n = absurd (n refl)
count_back (some s) (fit (a_count w)) n = refl

tenths_back : {low high : ℕ} (o : Option Said) → Fit (tenths low high) o → ¬ (o ≡ none) → some (number (number_in o)) ≡ o
tenths_back none fit_no n = absurd (n refl)
tenths_back (some s) (fit (a_tenths w)) n = refl

epoch_back : (o : Option Said) → Fit an_epoch o → ¬ (o ≡ none) → some (number (number_in o)) ≡ o
epoch_back none fit_no n = absurd (n refl)
epoch_back (some s) (fit (a_epoch w)) n = refl

axis_back : {l : Line} (o : Option Said) → Fit (axis l) o → ¬ (o ≡ none) → some (along (axis_in o)) ≡ o
axis_back none fit_no n = absurd (n refl)
axis_back (some s) (fit (a_axis w)) n = refl

program_back : (o : Option Said) → Fit program o → ¬ (o ≡ none) → some (words (get_or (words_in o) 0 [] ∷ get_or (words_in o) 1 [] ∷ get_or (words_in o) 2 [] ∷ [])) ≡ o
program_back none fit_no n = absurd (n refl)
program_back (some s) (fit (a_program a b c)) n = refl

mapping_back : (o : Option Said) → Fit mapping o → ¬ (o ≡ none) → some (words (get_or (words_in o) 0 [] ∷ [])) ≡ o
mapping_back none fit_no n = absurd (n refl)
mapping_back (some s) (fit (a_mapping a)) n = refl

observables_back : (o : Option Said) → Fit observables o → ¬ (o ≡ none) → some (words (get_or (words_in o) 0 [] ∷ [])) ≡ o
observables_back none fit_no n = absurd (n refl)
observables_back (some s) (fit (a_observables a)) n = refl

says_counted : {low high : ℕ} (o : Option Said) → Fit (count low high) o → counted (counted_in o) ≡ o
says_counted none fit_no = refl
says_counted (some s) (fit (a_count w)) = refl

says_system : (o : Option Said) → Fit a_system o → of_system (system_in o) ≡ o
says_system none fit_no = refl
says_system (some s) (fit (accepts_system a b)) = refl

module _ (c : Version) (got : Slots) (n : ℕ) (ds : Lines) (z : length got ≡ 22) (f : FitAll got) (w : Complete starred got) where
  pub says_made : says (made c got n) (made_texts got ds) ≡ got
  unfolding made made_texts
  says_made =
      let k : (i : ℕ) → get_or starred i true ≡ false → ¬ (get_or got i none ≡ none) = λ i e. complete_at starred got i w e in
      (λ i.
      program_back (get_or got 0 none) (f 0) (k 0 refl) i
      ∷ epoch_back (get_or got 1 none) (f 1) (k 1 refl) i
      ∷ epoch_back (get_or got 2 none) (f 2) (k 2 refl) i
      ∷ count_back (get_or got 3 none) (f 3) (k 3 refl) i
      ∷ count_back (get_or got 4 none) (f 4) (k 4 refl) i
      ∷ mapping_back (get_or got 5 none) (f 5) (k 5 refl) i
      ∷ tenths_back (get_or got 6 none) (f 6) (k 6 refl) i
      ∷ observables_back (get_or got 7 none) (f 7) (k 7 refl) i
      ∷ says_counted (get_or got 8 none) (f 8) i
      ∷ says_counted (get_or got 9 none) (f 9) i
      ∷ tenths_back (get_or got 10 none) (f 10) (k 10 refl) i
      ∷ count_back (get_or got 11 none) (f 11) (k 11 refl) i
      ∷ axis_back (get_or got 12 none) (f 12) (k 12 refl) i
      ∷ axis_back (get_or got 13 none) (f 13) (k 13 refl) i
      ∷ axis_back (get_or got 14 none) (f 14) (k 14 refl) i
      ∷ says_system (get_or got 15 none) (f 15) i
      ∷ says_system (get_or got 16 none) (f 16) i
      ∷ says_system (get_or got 17 none) (f 17) i
      ∷ says_system (get_or got 18 none) (f 18) i
      ∷ says_system (get_or got 19 none) (f 19) i
      ∷ says_system (get_or got 20 none) (f 20) i
      ∷ says_system (get_or got 21 none) (f 21) i
      ∷ []) ∙ (rw z at (listed got none))

counted_filled : (o : Option Said) → Filled (counted_in o).stands (counted_in o).count
counted_filled none = refl
counted_filled (some (number n)) = tt
counted_filled (some (along a)) = refl
counted_filled (some (words ws)) = refl
counted_filled (some (counts a b)) = refl

system_filled : (o : Option Said) → Filled (system_in o).stands (system_in o).stations × Filled (system_in o).stands (system_in o).satellites
system_filled none = (refl, refl)
system_filled (some (number n)) = (refl, refl)
system_filled (some (along a)) = (refl, refl)
system_filled (some (words ws)) = (refl, refl)
system_filled (some (counts a b)) = (tt, tt)

pub made_filled : (c : Version) (got : Slots) (n : ℕ) → Fillers (made c got n)
unfolding made
made_filled c got n =
    record {
      stations = counted_filled (get_or got 8 none);
      satellites = counted_filled (get_or got 9 none);
      g = system_filled (get_or got 15 none);
      r = system_filled (get_or got 16 none);
      e = system_filled (get_or got 17 none);
      c = system_filled (get_or got 18 none);
      j = system_filled (get_or got 19 none);
      i = system_filled (get_or got 20 none);
      s = system_filled (get_or got 21 none);
    }

-- ---- the slots of the systems

pub system_content : (j : ℕ) → content (15 + j) ≡ a_system
system_content j = sym (get_or-drop 15 contents j a_system) ∙ all_same 7 j
  where
    all_same : (n j : ℕ) → get_or (replicate n a_system) j a_system ≡ a_system
    all_same zero j = refl
    all_same (suc n) zero = refl
    all_same (suc n) (suc j) = all_same n j
