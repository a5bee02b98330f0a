-- What is got when a record is kept, and the header record of what was got.
use mathlib.Core.Path.{◌≡◌, refl, sym, ap, ap₂, subst, ◌∙◌}
use mathlib.Core.Bool.{Bool, true, false, ◌&&◌, ◌||◌}
use mathlib.Core.Option.{Option, none, some}
use mathlib.Core.List.{List, [], ◌∷◌}
use Prim.Native.Nat.{ℕ, zero, suc, ◌+◌, ◌≤◌, ◌<◌}
use native.Mathlib.Nat.{zero-add, add-zero, add-suc, suc-add}
use native.Mathlib.Numerals.{add-one}
use native.Mathlib.Omega.{arith}
use lib.Dec.{T, eqb, eqb→eq}
use lib.ListN.{length, get_or, set, drop, drop_of_length-le}
use lib.Seq.{get_or-set_same, get_or-set_other, drop-cons}
use Rattle.kit.specs.Truth.{truth}
use Rattle.kit.proofs.TruthLaws.{and_left, and_right}
use Rattle.mapset.specs.Grid.{Line}
use Rattle.mapset.specs.Header.{Content, count, tenths, epoch, axis, program, mapping, observables, system, contents, starred, Said, words}
use Rattle.layout.specs.Labels.{content}
use Rattle.mapset.specs.Said.{number_in, axis_in, words_in, counted_in, system_in}
use Rattle.reading.specs.Head.{Complete, complete?, made_texts}
use Rattle.reading.proofs.SlotLaws.{complete_at}
use Rattle.head_said.specs.Records.{says}
use Rattle.std.specs.Prelude.{Some, None, is_some, Option as Held}
use Rattle.std.specs.List.{list_all, zip}
use Rattle.head_state.specs.Got.{nil, said, if_held, or_nil, value_in, slot, places, slots_of, texts_of, five}
use Rattle.head_said.specs.Tables.{OneNumber, AnAxis, OfNumbers}
use Rattle.head_said.specs.declared.Value.{Value}
use Rattle.head_state.specs.declared.State.{State}

-- ---- places

module _ {A : Type 0} (f : ℕ → A) where
  places_at : (i n j : ℕ) (d : A) → j < n → get_or (places f i n) j d ≡ f (i + j)
  places_at i zero j d h = absurd (omega arith)
  places_at i (suc n) zero d h = rw add-zero refl
  places_at i (suc n) (suc j) d h = places_at (suc i) n j d (omega arith) ∙ ap f (omega arith)

  places_set : (g : ℕ → A) (i n j : ℕ) (x : A) → g (i + j) ≡ x → ((k : ℕ) → ¬ (k ≡ i + j) → g k ≡ f k) → set (places f i n) j x ≡ places g i n
  places_set g i zero j x e o = refl
  places_set g i (suc n) zero x e o =
      let e0 : g i ≡ x = ap g (sym (add-zero i)) ∙ e in
      (λ t. sym e0 t ∷ same_from (suc i) n (λ k h. sym (o k (λ q. absurd (omega arith)))) t)
    where
      same_from : (i n : ℕ) → ((k : ℕ) → i ≤ k → f k ≡ g k) → places f i n ≡ places g i n
      same_from i zero h = refl
      same_from i (suc n) h = λ t. h i (omega arith) t ∷ same_from (suc i) n (λ k q. h k (omega arith)) t
  places_set g i (suc n) (suc j) x e o =
      let e0 : suc i + j ≡ i + suc j = omega arith in
      (λ t. sym (o i (λ q. absurd (omega arith))) t ∷ places_set g (suc i) n j x (ap g e0 ∙ e) (λ k q. o k (λ r. q (r ∙ sym e0))) t)

-- ---- slots

module _ (s : State) (i : ℕ) (inside : i < 22) where
  slot_at : get_or (slots_of s) i none ≡ slot s i
  unfolding slots_of
  slot_at = places_at (slot s) 0 22 i none inside ∙ ap (slot s) (zero-add i)

  pub stands : (v : Value) → get_or s.values i None ≡ Some v → get_or (slots_of s) i none ≡ some (said s (content i) v)
  stands v e = slot_at ∙ (unfold slot in rw e refl)

  pub is_missing : get_or s.values i None ≡ None → get_or (slots_of s) i none ≡ none
  is_missing e = slot_at ∙ (unfold slot in rw e refl)

held_same : (f g : Value → Said) (o : Held Value) → ((v : Value) → f v ≡ g v) → if_held f o ≡ if_held g o
held_same f g None h = refl
held_same f g (Some v) h = ap some (h v)

-- the state t has one record more than s
changed : (s t : State) (i : ℕ) (v : Value) → i < length s.values → t.values ≡ set s.values i (Some v)
    → ((j : ℕ) → ¬ (j ≡ i) → (w : Value) → said t (content j) w ≡ said s (content j) w) → slots_of t ≡ set (slots_of s) i (some (said t (content i) v))
unfolding slots_of slot
changed s t i v l e o =
    let held : (k : ℕ) → get_or t.values k None ≡ get_or (set s.values i (Some v)) k None = λ k. ap (λ (b : List (Held Value)). get_or b k None) e in
    sym (places_set (slot s) (slot t) 0 22 i (some (said t (content i) v))
    (ap (slot t) (zero-add i) ∙ ap (if_held (said t (content i))) (held i ∙ get_or-set_same s.values i (Some v) None l))
    (λ k n. let m : ¬ (k ≡ i) = λ q. n (q ∙ sym (zero-add i)) in
    ap (if_held (said t (content k))) (held k ∙ get_or-set_other s.values i k (Some v) None m) ∙ held_same _ _ (get_or s.values k None) (o k m)))

-- a record of numbers
abbrev with_value : State → ℕ → Value → State
with_value s i v =
    record { aux = s.aux; exponent = s.exponent; values = set s.values i (Some v); program = s.program; agency = s.agency; date = s.date; mapping = s.mapping; observables = s.observables; descriptions = s.descriptions }

module _ (s : State) (i : ℕ) (v : Value) where
  here : (k : Content) → OfNumbers k → said (with_value s i v) k v ≡ says k v
  here (count low high) h = refl
  here (tenths low high) h = refl
  here epoch h = refl
  here (axis n) h = refl
  here system h = refl
  here program h = absurd h
  here mapping h = absurd h
  here observables h = absurd h

  there : (k : Content) (w : Value) → said (with_value s i v) k w ≡ said s k w
  there (count low high) w = refl
  there (tenths low high) w = refl
  there epoch w = refl
  there (axis l) w = refl
  there system w = refl
  there program w = refl
  there mapping w = refl
  there observables w = refl

  pub value_kept : i < length s.values → OfNumbers (content i) → slots_of (with_value s i v) ≡ set (slots_of s) i (some (says (content i) v))
  value_kept l m = changed s (with_value s i v) i v l refl (λ j n. there (content j)) ∙ ap (λ (y : Said). set (slots_of s) i (some y)) (here (content i) m)

-- ---- texts stand at one place each

abbrev right_place : Content → ℕ → Bool
right_place program j = eqb j 0
right_place mapping j = eqb j 5
right_place observables j = eqb j 7
right_place (count low high) j = true
right_place (tenths low high) j = true
right_place epoch j = true
right_place (axis l) j = true
right_place system j = true

abbrev all_right : ℕ → List Content → Bool
all_right i [] = true
all_right i (k ∷ ks) = right_place k i && all_right (suc i) ks

right_at : (ks : List Content) (i : ℕ) → T (all_right i ks) → (j : ℕ) → T (right_place (get_or ks j system) (i + j))
right_at [] i t j = tt
right_at (k ∷ ks) i t zero = rw add-zero (and_left (right_place k i) (all_right (suc i) ks) t)
right_at (k ∷ ks) i t (suc j) = rw (add-suc, ← (suc-add i j)) (right_at ks (suc i) (and_right (right_place k i) (all_right (suc i) ks) t) j)

right : (j : ℕ) → T (right_place (content j) j)
right j = rw zero-add at (right_at contents 0 tt j)

pub program_place : (i : ℕ) → content i ≡ program → i ≡ 0
program_place i e = eqb→eq i 0 (rw e at (right i))

pub mapping_place : (i : ℕ) → content i ≡ mapping → i ≡ 5
mapping_place i e = eqb→eq i 5 (rw e at (right i))

pub observables_place : (i : ℕ) → content i ≡ observables → i ≡ 7
observables_place i e = eqb→eq i 7 (rw e at (right i))

module _ (s : State) where
  abbrev with_program : List ℕ → List ℕ → List ℕ → State
  with_program a b c =
      record { aux = s.aux; exponent = s.exponent; values = set s.values 0 (Some nil); program = a; agency = b; date = c; mapping = s.mapping; observables = s.observables; descriptions = s.descriptions }

  abbrev with_mapping : List ℕ → State
  with_mapping a =
      record { aux = s.aux; exponent = s.exponent; values = set s.values 5 (Some nil); program = s.program; agency = s.agency; date = s.date; mapping = a; observables = s.observables; descriptions = s.descriptions }

  abbrev with_observables : List ℕ → State
  with_observables a =
      record { aux = s.aux; exponent = s.exponent; values = set s.values 7 (Some nil); program = s.program; agency = s.agency; date = s.date; mapping = s.mapping; observables = a; descriptions = s.descriptions }

  no_program : (a b c : List ℕ) (j : ℕ) (k : Content) → T (right_place k j) → ¬ (j ≡ 0) → (w : Value) → said (with_program a b c) k w ≡ said s k w
  no_program a b c j program t n w = absurd (n (eqb→eq j 0 t))
  no_program a b c j mapping t n w = refl
  no_program a b c j observables t n w = refl
  no_program a b c j (count low high) t n w = refl
  no_program a b c j (tenths low high) t n w = refl
  no_program a b c j epoch t n w = refl
  no_program a b c j (axis l) t n w = refl
  no_program a b c j system t n w = refl

  no_mapping : (a : List ℕ) (j : ℕ) (k : Content) → T (right_place k j) → ¬ (j ≡ 5) → (w : Value) → said (with_mapping a) k w ≡ said s k w
  no_mapping a j program t n w = refl
  no_mapping a j mapping t n w = absurd (n (eqb→eq j 5 t))
  no_mapping a j observables t n w = refl
  no_mapping a j (count low high) t n w = refl
  no_mapping a j (tenths low high) t n w = refl
  no_mapping a j epoch t n w = refl
  no_mapping a j (axis l) t n w = refl
  no_mapping a j system t n w = refl

  no_observables : (a : List ℕ) (j : ℕ) (k : Content) → T (right_place k j) → ¬ (j ≡ 7) → (w : Value) → said (with_observables a) k w ≡ said s k w
  no_observables a j program t n w = refl
  no_observables a j mapping t n w = refl
  no_observables a j observables t n w = absurd (n (eqb→eq j 7 t))
  no_observables a j (count low high) t n w = refl
  no_observables a j (tenths low high) t n w = refl
  no_observables a j epoch t n w = refl
  no_observables a j (axis l) t n w = refl
  no_observables a j system t n w = refl

  pub program_kept : 0 < length s.values → (a b c : List ℕ) → slots_of (with_program a b c) ≡ set (slots_of s) 0 (some (words (a ∷ b ∷ c ∷ [])))
  program_kept l a b c = changed s (with_program a b c) 0 nil l refl (λ j n. no_program a b c j (content j) (right j) n)

  pub mapping_kept : 5 < length s.values → (a : List ℕ) → slots_of (with_mapping a) ≡ set (slots_of s) 5 (some (words (a ∷ [])))
  mapping_kept l a = changed s (with_mapping a) 5 nil l refl (λ j n. no_mapping a j (content j) (right j) n)

  pub observables_kept : 7 < length s.values → (a : List ℕ) → slots_of (with_observables a) ≡ set (slots_of s) 7 (some (words (a ∷ [])))
  observables_kept l a = changed s (with_observables a) 7 nil l refl (λ j n. no_observables a j (content j) (right j) n)

-- ---- the header record

-- what holds of contents of this kind
module _ (P : Content → Type 0) where
  on_number : ((low high : ℕ) → P (count low high)) → ((low high : ℕ) → P (tenths low high)) → (k : Content) → OneNumber k → P k
  on_number f g (count low high) h = f low high
  on_number f g (tenths low high) h = g low high
  on_number f g epoch h = absurd h
  on_number f g (axis l) h = absurd h
  on_number f g program h = absurd h
  on_number f g mapping h = absurd h
  on_number f g observables h = absurd h
  on_number f g system h = absurd h

  on_axis : ((l : Line) → P (axis l)) → (k : Content) → AnAxis k → P k
  on_axis f (count low high) h = absurd h
  on_axis f (tenths low high) h = absurd h
  on_axis f epoch h = absurd h
  on_axis f (axis l) h = f l
  on_axis f program h = absurd h
  on_axis f mapping h = absurd h
  on_axis f observables h = absurd h
  on_axis f system h = absurd h

module _ (s : State) (i : ℕ) (inside : i < 22) where
  -- what a record that may stand gives: f of what is held, g of its slot
  got : {A : Type 0} (f : Held Value → A) (g : Option Said → A) → f None ≡ g none → ((v : Value) → f (Some v) ≡ g (some (said s (content i) v)))
      → f (get_or s.values i None) ≡ g (get_or (slots_of s) i none)
  unfolding slot
  got f g a b = by (get_or s.values i None) ∙ sym (ap g (slot_at s i inside))
    where
      by : (o : Held Value) → f o ≡ g (if_held (said s (content i)) o)
      by None = a
      by (Some v) = b v

  pub number_got : OneNumber (content i) → (value_in s i).number ≡ number_in (get_or (slots_of s) i none)
  number_got h = got (λ o. (or_nil o).number) number_in refl (λ v. on_number (λ k. v.number ≡ number_in (some (said s k v))) (λ _ _. refl) (λ _ _. refl) (content i) h)

  pub second_got : content i ≡ epoch → (value_in s i).second ≡ number_in (get_or (slots_of s) i none)
  second_got h = got (λ o. (or_nil o).second) number_in refl (λ v. subst (λ (k : Content). v.second ≡ number_in (some (said s k v))) (sym h) refl)

  pub axis_got : AnAxis (content i) → (value_in s i).axis ≡ axis_in (get_or (slots_of s) i none)
  axis_got h = got (λ o. (or_nil o).axis) axis_in refl (λ v. on_axis (λ k. v.axis ≡ axis_in (some (said s k v))) (λ _. refl) (content i) h)

  pub counted_got : OneNumber (content i) → record { stands = is_some (get_or s.values i None); count = (value_in s i).number } ≡ counted_in (get_or (slots_of s) i none)
  counted_got h =
      got (λ o. record { stands = is_some o; count = (or_nil o).number }) counted_in refl
      (λ v. on_number (λ k. record { stands = true; count = v.number } ≡ counted_in (some (said s k v))) (λ _ _. refl) (λ _ _. refl) (content i) h)

  pub system_got : content i ≡ system
      → record { stands = is_some (get_or s.values i None); stations = (value_in s i).number; satellites = (value_in s i).satellites } ≡ system_in (get_or (slots_of s) i none)
  system_got h =
      got (λ o. record { stands = is_some o; stations = (or_nil o).number; satellites = (or_nil o).satellites }) system_in refl
      (λ v. subst (λ (k : Content). record { stands = true; stations = v.number; satellites = v.satellites } ≡ system_in (some (said s k v))) (sym h) refl)

-- ---- no record is missing

-- a record may be missing, or is held
abbrev pub may_stand : Bool × Held Value → Bool
may_stand p = p.0 || is_some p.1

-- slots stand where values are held
held_all : (bs : List Bool) (vs : List (Held Value)) (g : ℕ → Option Said) (f : ℕ → Value → Said) (i : ℕ) → length bs ≡ length vs
    → ((j : ℕ) → j < length vs → g (i + j) ≡ if_held (f j) (get_or vs j None)) → truth (complete? bs (places g i (length vs))) ≡ list_all may_stand (zip bs vs)
unfolding complete? truth
held_all [] [] g f i e h = refl
held_all [] (v ∷ vs) g f i e h = absurd (omega arith)
held_all (b ∷ bs) [] g f i e h = absurd (omega arith)
held_all (b ∷ bs) (v ∷ vs) g f i e h =
    let rest = held_all bs vs g (λ j. f (suc j)) (suc i) (omega arith) (λ j n. ap g (omega arith) ∙ h (suc j) (omega arith)) in
    ap (λ (o : Option Said). truth (complete? (b ∷ bs) (o ∷ places g (suc i) (length vs)))) (ap g (sym (add-zero i)) ∙ h 0 (omega arith)) ∙ by rest b v
  where
    by : truth (complete? bs (places g (suc i) (length vs))) ≡ list_all may_stand (zip bs vs) → (b : Bool) (v : Held Value)
        → truth (complete? (b ∷ bs) (if_held (f 0) v ∷ places g (suc i) (length vs))) ≡ ((b || is_some v) && list_all may_stand (zip bs vs))
    by r true v = r
    by r false None = refl
    by r false (Some x) = r

-- from the k-th on
abbrev pub all_from : List (Held Value) → ℕ → Bool
all_from vs k = list_all may_stand (zip (drop k starred) (drop k vs))

module _ (vs : List (Held Value)) (n : length vs ≡ 22) where
  module _ (k : ℕ) (h : k < 22) where
    cut : all_from vs k ≡ ((get_or starred k false || is_some (get_or vs k None)) && all_from vs (k + 1))
    cut =
        ap₂ (λ (bs : List Bool) (ws : List (Held Value)). list_all may_stand (zip bs ws))
        (drop-cons starred k false h ∙ (λ i. get_or starred k false ∷ drop (sym (add-one k) i) starred))
        (drop-cons vs k None (omega arith) ∙ (λ i. get_or vs k None ∷ drop (sym (add-one k) i) vs))

    pub next_stands : (get_or starred k false || is_some (get_or vs k None)) ≡ true → all_from vs k ≡ all_from vs (k + 1)
    next_stands e = cut ∙ ap (λ (b : Bool). b && all_from vs (k + 1)) e

    pub is_lacking : (get_or starred k false || is_some (get_or vs k None)) ≡ false → all_from vs k ≡ false
    is_lacking e = cut ∙ ap (λ (b : Bool). b && all_from vs (k + 1)) e

  pub none_left : (k : ℕ) → 22 ≤ k → all_from vs k ≡ true
  none_left k h =
      let m : length starred ≤ k = h in
      rw (drop_of_length-le starred m) refl

module _ (s : State) where
  pub complete_all : length s.values ≡ 22 → all_from s.values 0 ≡ truth (complete? starred (slots_of s))
  unfolding slots_of slot
  complete_all n =
      sym (held_all starred s.values (slot s) (λ j. said s (content j)) 0 (sym n) (λ j h. ap (λ (k : ℕ). if_held (said s (content k)) (get_or s.values k None)) (zero-add j)))
      ∙ ap (λ (k : ℕ). truth (complete? starred (places (slot s) 0 k))) n

  held_one : Complete starred (slots_of s) → (i : ℕ) → i < 22 → get_or starred i true ≡ false → (v : Value) × (get_or s.values i None ≡ Some v)
  held_one c i h e = by (get_or s.values i None) refl
    where
      by : (o : Held Value) → get_or s.values i None ≡ o → (v : Value) × (get_or s.values i None ≡ Some v)
      by (Some v) q = (v, q)
      by None q = absurd (complete_at starred (slots_of s) i c e (is_missing s i h q))

  stood : Complete starred (slots_of s) → (i : ℕ) → i < 22 → get_or starred i true ≡ false → (v : Value) × (get_or (slots_of s) i none ≡ some (said s (content i) v))
  stood c i h e = let x = held_one c i h e in (x.0, stands s i h x.0 x.1)

  -- the texts are what was got
  pub texts_got : Complete starred (slots_of s) → texts_of s ≡ five (made_texts (slots_of s) [])
  unfolding made_texts
  texts_got c =
      let p = (stood c 0 (omega arith) refl).1 in
      let m = (stood c 5 (omega arith) refl).1 in
      let o = (stood c 7 (omega arith) refl).1 in
      sym (λ i. record {
        program = get_or (words_in (p i)) 0 [];
        agency = get_or (words_in (p i)) 1 [];
        date = get_or (words_in (p i)) 2 [];
        mapping = get_or (words_in (m i)) 0 [];
        observables = get_or (words_in (o i)) 0 [];
      })
