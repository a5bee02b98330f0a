-- The loop: what the scan stores from here is what it stores from the start.
use mathlib.Core.Path.{◌≡◌, refl, sym, ap, subst, ◌∙◌}
use mathlib.Core.Bool.{Bool, true, false, cond}
use mathlib.Core.Option.{Option, none, some}
use mathlib.Core.List.{List, [], ◌∷◌, ◌++◌}
use Prim.Native.Nat.{ℕ, suc, ◌+◌, ◌-◌, ◌*◌, ◌≤◌, ◌<◌}
use native.Mathlib.Nat.{suc-mul, mul-le-mul_right}
use native.Mathlib.Omega.{arith}
use lib.ListN.{length, length-set}
use lib.Seq.{sets, length-sets}
use lib.IntN.{ℤ}
use Rattle.kit.proofs.ListLaws.{all_front, all_behind}
use Rattle.kit.specs.Answer.{All}
use Rattle.mapset.specs.declared.Kind.{Kind}
use Rattle.mapset.specs.declared.Kind.TheVariants.{Tec, Rms, Height}
use Rattle.mapset.specs.Areas.{Areas}
use Rattle.layout.specs.Labels.{Label, version, description, comment, system, exponent, aux_start, aux_end, header_end, epoch, block, file_end, head, start, end}
use Rattle.reading.specs.Fields.{label}
use Rattle.areas.specs.Events as event
use Rattle.areas.specs.Stores.{is, put_values, put_exponent, put_epoch, put_mark, Inside, lengths, scan, scanned}
use Rattle.areas.specs.Places.{place}
use Rattle.areas.specs.Scan.{Now, Turn, at_first, values_ahead, on_epoch, turn, brought}
use Rattle.areas.proofs.Scanned.{scanned_append}
use Rattle.read_fill.specs.Rows.{rows_from, due_behind, Valued}
use Rattle.read_events.specs.Brings.{told, tells, due, turned, Takes, first_state}
use Rattle.read_fill.specs.Scan.{Turned, passed, taken, Resumed}
use Rattle.read_events.specs.declared.State.{State}
use Rattle.read_fill.specs.declared.Step.{Step}
use Rattle.read_events.specs.declared.Event.{Event}
use Rattle.read_events.specs.declared.Event.TheVariants.{Nothing}
use Rattle.read_fill.proofs.StepLaws.{rows_end}

-- ---- no store changes a length

module _ {A : Type 0} (st : event.Event → List A → List A) (keeps : (f : event.Event) (l : List A) → length (st f l) ≡ length l) where
  pub scan_length : (fs : List event.Event) (l : List A) → length (scan st fs l) ≡ length l
  scan_length [] l = refl
  scan_length (f ∷ fs) l = scan_length fs (st f l) ∙ keeps f l

  -- where two scans end in the same list, they began with lists of one length
  same_lengths : (fs gs : List event.Event) (l m : List A) → scan st fs l ≡ scan st gs m → length l ≡ length m
  same_lengths fs gs l m e = sym (scan_length fs l) ∙ ap length e ∙ scan_length gs m

keeps_values : (B C : ℕ) (k : Kind) (f : event.Event) (l : List ℤ) → length (put_values B C k f l) ≡ length l
keeps_values B C k (event.block k' i b x) l = both (is k k')
  where
    both : (t : Bool) → length (cond t (sets l (place B C i b) x.values) l) ≡ length l
    both true = length-sets l (place B C i b) x.values
    both false = refl
keeps_values B C k (event.epoch i e) l = refl
keeps_values B C k (event.marked k' i) l = refl

pub keeps_exponents : (n B : ℕ) (f : event.Event) (l : List ℤ) → length (put_exponent n B f l) ≡ length l
keeps_exponents n B (event.block k i b x) l = length-set l _ _
keeps_exponents n B (event.epoch i e) l = refl
keeps_exponents n B (event.marked k i) l = refl

keeps_epochs : (f : event.Event) (l : List ℕ) → length (put_epoch f l) ≡ length l
keeps_epochs (event.block k i b x) l = refl
keeps_epochs (event.epoch i e) l = length-set l _ _
keeps_epochs (event.marked k i) l = refl

pub keeps_marks : (f : event.Event) (l : List ℕ) → length (put_mark f l) ≡ length l
keeps_marks (event.block k i b x) l = refl
keeps_marks (event.epoch i e) l = refl
keeps_marks (event.marked k i) l = length-set l _ _

pub record Sized (l m : Areas) : Type 0 where
  pub tec : length l.tec ≡ length m.tec
  pub rms : length l.rms ≡ length m.rms
  pub height : length l.height ≡ length m.height
  pub exponents : length l.exponents ≡ length m.exponents
  pub epochs : length l.epochs ≡ length m.epochs
  pub marks : length l.marks ≡ length m.marks

same_sizes : (n B C : ℕ) (fs gs : List event.Event) (l m : Areas) → scanned n B C fs l ≡ scanned n B C gs m → Sized l m
unfolding scanned
same_sizes n B C fs gs l m e =
    record {
      tec = same_lengths (put_values B C Tec) (keeps_values B C Tec) fs gs _ _ (ap (λ f. f.tec) e);
      rms = same_lengths (put_values B C Rms) (keeps_values B C Rms) fs gs _ _ (ap (λ f. f.rms) e);
      height = same_lengths (put_values B C Height) (keeps_values B C Height) fs gs _ _ (ap (λ f. f.height) e);
      exponents = same_lengths (put_exponent n B) (keeps_exponents n B) fs gs _ _ (ap (λ f. f.exponents) e);
      epochs = same_lengths put_epoch keeps_epochs fs gs _ _ (ap (λ f. f.epochs) e);
      marks = same_lengths put_mark keeps_marks fs gs _ _ (ap (λ f. f.marks) e);
    }

-- ---- a turn

due_epoch : (s : Now) (k : Kind) (r : List ℕ) → (on_epoch s k r).due ≡ 0
due_epoch s Tec r = refl
due_epoch s Rms r = refl
due_epoch s Height r = refl

pub due_is : (C : ℕ) (s : Now) (o : Option Label) (r : List ℕ) (rs : List (List ℕ)) → due_behind C o ≡ (turn C s o r rs).due
due_is C s none r rs = refl
due_is C s (some (start Tec)) r rs = refl
due_is C s (some (start Rms)) r rs = refl
due_is C s (some (start Height)) r rs = refl
due_is C s (some epoch) r rs = sym (due_epoch s s.kind r)
due_is C s (some exponent) r rs = refl
due_is C s (some block) r rs = refl
due_is C s (some (end k)) r rs = refl
due_is C s (some comment) r rs = refl
due_is C s (some file_end) r rs = refl
due_is C s (some version) r rs = refl
due_is C s (some description) r rs = refl
due_is C s (some system) r rs = refl
due_is C s (some aux_start) r rs = refl
due_is C s (some aux_end) r rs = refl
due_is C s (some header_end) r rs = refl
due_is C s (some (head i)) r rs = refl

-- the state stays small
abbrev pub Small : (n B : ℕ) → Now → Type 0
Small n B s = (s.tecs ≤ n) × (s.done ≤ n * B)

module _ (n B C : ℕ) (N : Kind → ℕ) (s : Now) (p : Small n B s) where
  small_epoch : (k : Kind) (r : List ℕ) → All (Inside n B C N) (on_epoch s k r).events → Small n B (on_epoch s k r).next
  small_epoch Tec r h = (omega (arith, h.0), p.1)
  small_epoch Rms r h = p
  small_epoch Height r h = p

  pub small_turn : (o : Option Label) (r : List ℕ) (rs : List (List ℕ)) → All (Inside n B C N) (turn C s o r rs).events → Small n B (turn C s o r rs).next
  small_turn none r rs h = p
  small_turn (some (start Tec)) r rs h = (p.0, omega arith)
  small_turn (some (start Rms)) r rs h = (p.0, omega arith)
  small_turn (some (start Height)) r rs h = (p.0, omega arith)
  small_turn (some epoch) r rs h = small_epoch s.kind r h
  small_turn (some exponent) r rs h = p
  small_turn (some block) r rs h = (p.0, omega (arith, h.0.0))
  small_turn (some (end k)) r rs h = p
  small_turn (some comment) r rs h = p
  small_turn (some file_end) r rs h = p
  small_turn (some version) r rs h = p
  small_turn (some description) r rs h = p
  small_turn (some system) r rs h = p
  small_turn (some aux_start) r rs h = p
  small_turn (some aux_end) r rs h = p
  small_turn (some header_end) r rs h = p
  small_turn (some (head i)) r rs h = p

-- ---- the loop

-- in front of a line
pub record Going (n B C : ℕ) (N : Kind → ℕ) (t : List ℕ) (es : List event.Event) (l₀ : Areas) (at : ℕ) (s : State) (l : Areas) : Type 0 where
  pub within : at ≤ length t
  pub small : Small n B (told s)
  pub valued : Valued C 0 (rows_from t at)
  pub inside : All (Inside n B C N) (brought C (told s) 0 (rows_from t at))
  pub goal : scanned n B C (brought C (told s) 0 (rows_from t at)) l ≡ scanned n B C es l₀

-- between a row and what it stores
pub record Ahead (n B C : ℕ) (N : Kind → ℕ) (t : List ℕ) (es : List event.Event) (l₀ : Areas) (l : Areas) (r : Step) : Type 0 where
  pub within : r.at ≤ length t
  pub small : Small n B (told r.state)
  pub valued : Valued C (due C r.event) (rows_from t r.at)
  pub here : All (Inside n B C N) (tells r.event (values_ahead C (rows_from t r.at)))
  pub inside : All (Inside n B C N) (brought C (told r.state) (due C r.event) (rows_from t r.at))
  pub goal : scanned n B C (brought C (told r.state) (due C r.event) (rows_from t r.at)) (scanned n B C (tells r.event (values_ahead C (rows_from t r.at))) l) ≡ scanned n B C es l₀

pub going_start : {n B C : ℕ} {N : Kind → ℕ} {t : List ℕ} {l : Areas} {at : ℕ} (e e' : ℤ) → e' ≡ e → at ≤ length t → Valued C 0 (rows_from t at)
    → All (Inside n B C N) (brought C (at_first e) 0 (rows_from t at)) → Going n B C N t (brought C (at_first e') 0 (rows_from t at)) l at (first_state e') l
going_start {n} {B} {C} {N} {t} {l} {at} e e' q w v i =
    record { within = w; small = (omega arith, omega arith); valued = v; inside = subst (λ z. All (Inside n B C N) (brought C (at_first z) 0 (rows_from t at))) (sym q) i; goal = refl }

wider : (n B C : ℕ) (N N' : Kind → ℕ) → ((k : Kind) → N k ≤ N' k) → (fs : List event.Event) → All (Inside n B C N) fs → All (Inside n B C N') fs
wider n B C N N' h [] a = tt
wider n B C N N' h (event.block k i b x ∷ fs) a = ((a.0.0, a.0.1, omega (arith, a.0.2, h k)), wider n B C N N' h fs a.1)
wider n B C N N' h (event.epoch i e ∷ fs) a = (a.0, wider n B C N N' h fs a.1)
wider n B C N N' h (event.marked k i ∷ fs) a = (a.0, wider n B C N N' h fs a.1)

-- areas of the same lengths have the same room
pub as_long : (n B C : ℕ) {l l₀ : Areas} (fs : List event.Event) → Sized l l₀ → All (Inside n B C (lengths l₀)) fs → All (Inside n B C (lengths l)) fs
as_long n B C {l} {l₀} fs z a = wider n B C (lengths l₀) (lengths l) go fs a
  where
    go : (k : Kind) → lengths l₀ k ≤ lengths l k
    go Tec = omega (arith, z.tec)
    go Rms = omega (arith, z.rms)
    go Height = omega (arith, z.height)

module _ {n B C : ℕ} {N : Kind → ℕ} {t : List ℕ} {es : List event.Event} {l₀ : Areas} where
  pub going_sized : {at : ℕ} {s : State} {l : Areas} → Going n B C N t es l₀ at s l → Sized l l₀
  going_sized {l = l} g = same_sizes n B C _ _ l l₀ g.goal

  pub going_done : {at : ℕ} {s : State} {l : Areas} → Going n B C N t es l₀ at s l → length t ≤ at → l ≡ scanned n B C es l₀
  unfolding scanned brought
  going_done {at} {s} {l} g h = ap (λ rs. scanned n B C (brought C (told s) 0 rs) l) (sym (rows_end t at h)) ∙ g.goal

  module _ {at : ℕ} {s : State} {l : Areas} (g : Going n B C N t es l₀ at s l) where
    turned_row : (x : List ℕ) (r : Step) → r.at ≤ length t → rows_from t at ≡ x ∷ rows_from t r.at → Takes s x r.event r.state → Ahead n B C N t es l₀ l r
    unfolding brought Valued
    turned_row x r w e k =
        let rs : List (List ℕ) = rows_from t r.at in
        let u : turn C (told s) (label x) x rs ≡ turned C rs r.event r.state = k C rs in
        let fs : List event.Event = tells r.event (values_ahead C rs) in
        let gs : List event.Event = brought C (told r.state) (due C r.event) rs in
        let b : brought C (told s) 0 (rows_from t at) ≡ fs ++ gs = ap (λ ys. brought C (told s) 0 ys) e ∙ ap (λ (v : Turn). v.events ++ brought C v.next v.due rs) u in
        let i : All (Inside n B C N) (fs ++ gs) = subst (λ ys. All (Inside n B C N) ys) b g.inside in
        let d : due_behind C (label x) ≡ due C r.event = due_is C (told s) (label x) x rs ∙ ap (λ (v : Turn). v.due) u in
        record {
          within = w;
          small = subst (λ (v : Turn). All (Inside n B C N) v.events → Small n B v.next) u (small_turn n B C N (told s) g.small (label x) x rs) (all_front (Inside n B C N) fs gs i);
          valued = subst (λ j. Valued C j rs) d (subst (λ ys. Valued C 0 ys) e g.valued);
          here = all_front (Inside n B C N) fs gs i;
          inside = all_behind (Inside n B C N) fs gs i;
          goal = sym (scanned_append n B C fs gs l) ∙ ap (λ ys. scanned n B C ys l) (sym b) ∙ g.goal;
        }

    turned_none : (r : Step) → r.at ≤ length t → rows_from t at ≡ rows_from t r.at → r.event ≡ Nothing → r.state ≡ s → Ahead n B C N t es l₀ l r
    unfolding scanned
    turned_none r w e k q =
        rw (k, q) (record {
          within = w;
          small = g.small;
          valued = rw e at g.valued;
          here = tt;
          inside = rw e at g.inside;
          goal = rw e at g.goal;
        })

    pub going_turned : {r : Step} → Turned t at s r → Ahead n B C N t es l₀ l r
    going_turned {r} (passed a w e k q) = turned_none r w e k q
    going_turned {r} (taken x w e k) = turned_row x r w e k

  pub going_more : {l l' : Areas} {r : Step} {at : ℕ} → Ahead n B C N t es l₀ l r → l' ≡ scanned n B C (tells r.event (values_ahead C (rows_from t r.at))) l
      → Resumed t r.at C r.event at → Going n B C N t es l₀ at r.state l'
  going_more {r = r} a e m =
      let o = m.resumes.on C (told r.state) in
      record {
        within = m.resumes.within;
        small = a.small;
        valued = m.resumes.valued C a.valued;
        inside = subst (λ ys. All (Inside n B C N) ys) o a.inside;
        goal = (λ i. scanned n B C (sym o i) (e i)) ∙ a.goal;
      }

-- what a turn stores stands inside the areas as they are
pub inside_now : {n B C : ℕ} {t : List ℕ} {es : List event.Event} {l₀ l : Areas} {at : ℕ} {s : State} {r : Step}
    → Going n B C (lengths l₀) t es l₀ at s l → Turned t at s r → All (Inside n B C (lengths l)) (tells r.event (values_ahead C (rows_from t r.at)))
inside_now {n} {B} {C} {t} {l₀ = l₀} {l} {r = r} g u = as_long n B C {l = l} {l₀ = l₀} (tells r.event (values_ahead C (rows_from t r.at))) (going_sized g) (going_turned g u).here

-- ---- each turn has fewer rows before it, or the same and fewer bytes

abbrev pub weight : List ℕ → ℕ → ℕ
weight t at = length (rows_from t at) * suc (length t) + (length t - at)

pub lighter : {t : List ℕ} {at C : ℕ} {s : State} {r : Step} {at' : ℕ} → Turned t at s r → Resumed t r.at C r.event at' → weight t at' < weight t at
lighter {t} {at} {C} {s} {r} {at'} (passed a w e k q) m =
    let z = m.still k in
    let p : length (rows_from t at') * suc (length t) ≡ length (rows_from t at) * suc (length t) = ap (λ j. length (rows_from t j) * suc (length t)) z ∙ ap (λ rs. length rs * suc (length t)) (sym e) in
    omega arith
lighter {t} {at} {C} {s} {r} {at'} (taken x w e k) m =
    let f = m.resumes.fewer in
    let p : length (rows_from t at') * suc (length t) ≤ length (rows_from t r.at) * suc (length t) = mul-le-mul_right (suc (length t)) f in
    let q : length (rows_from t at) * suc (length t) ≡ length (rows_from t r.at) * suc (length t) + suc (length t) = ap (λ rs. length rs * suc (length t)) e ∙ suc-mul (length (rows_from t r.at)) (suc (length t)) in
    omega arith
