-- The scan: what is stored from here is what is stored from the start.
use mathlib.Core.Path.{◌≡◌, refl, sym, ap, subst, ◌∙◌}
use mathlib.Core.Option.{Option, none, some}
use mathlib.Core.List.{List, [], ◌∷◌, ◌++◌}
use Prim.Native.Nat.{ℕ, zero, suc, ◌+◌, ◌-◌, ◌*◌, ◌≤◌, ◌<◌}
use native.Mathlib.Omega.{arith}
use lib.IntN.{ℤ, negsuc}
use lib.ListN.{length, take, drop}
use Rattle.kit.specs.Answer.{All, same, pick}
use Rattle.kit.proofs.AnswerLaws.{pick_no}
use Rattle.kit.proofs.ListLaws.{all_front, all_behind}
use Rattle.kit.proofs.TruthLaws.{clash}
use Rattle.mapset.specs.declared.Kind.{Kind}
use Rattle.mapset.specs.declared.Kind.TheVariants.{Tec, Rms, Height}
use Rattle.layout.specs.Text.{pad}
use Rattle.layout.specs.Labels.{Label, version, description, comment, system, exponent, aux_start, aux_end, header_end, epoch, block, file_end, head, start, end, name, labels}
use Rattle.reading.specs.Fields.{lookup, label}
use Rattle.reading.proofs.RecordLaws.{known_maps}
use Rattle.areas.specs.Events as event
use Rattle.areas.specs.Scan.{Now, Turn, at_first, values_ahead, turn, brought}
use Rattle.areas.specs.Stores.{put_exponent, put_mark, Inside}
use Rattle.areas.proofs.ListLaws.{fill_length}
use Rattle.read_lines.specs.Lines.{Skips, Rows}
use Rattle.read_lines.proofs.Parts.{skip_in, row_in}
use Rattle.index.specs.Index.{Entries}
use Rattle.index.specs.Made.{Placed, placed_from, just_rows, opened}
use Rattle.index.proofs.Told.{value_row, block_row}
use Rattle.index.proofs.AsRead.{starts_length}
use Rattle.read_events.specs.Brings.{told, tells, due, turned, Takes, first_state}
use Rattle.read_events.specs.declared.State.{State}
use Rattle.read_events.specs.declared.Event.{Event}
use Rattle.read_events.specs.declared.Event.TheVariants.{Nothing, Epoch, Marked, Block}
use Rattle.read_fill.specs.Rows.{due_behind}
use Rattle.read_fill.proofs.Going.{Small, small_turn, due_is, scan_length, keeps_exponents, keeps_marks}
use Rattle.index_fill.specs.Enter.{Begins, opens, Turned, passed, valued, taken, Roomy, Stays, Kept, enters, entered_by, Steady, entered_from, cleared, Entered}
use Rattle.index_fill.specs.declared.Walk.{Walk}
use Rattle.index_fill.specs.declared.Step.{Step}
use Rattle.index_fill.proofs.RowsAhead.{skip_rows, row_rows, end_rows}

-- ---- a row that opens a block, and any other

lookup_name : (ls : List Label) (s : List ℕ) (l : Label) → lookup s ls ≡ some l → s ≡ name l
unfolding lookup pick
lookup_name [] s l e = clash (cc)
lookup_name (k ∷ ls) s l e = by (same s (name k)) e (lookup_name ls s l)
  where
    by : (d : Dec (s ≡ name k)) → pick d (some k) (lookup s ls) ≡ some l → (lookup s ls ≡ some l → s ≡ name l) → s ≡ name l
    by (yes p) e ih = let q : k ≡ l = cc in p ∙ ap name q
    by (no p) e ih = ih e

no_values : (o : Option Label) → ¬ (o ≡ some block) → due_behind 1 o ≡ 0
no_values none n = refl
no_values (some (start Tec)) n = refl
no_values (some (start Rms)) n = refl
no_values (some (start Height)) n = refl
no_values (some epoch) n = refl
no_values (some exponent) n = refl
no_values (some block) n = absurd (n refl)
no_values (some (end k)) n = refl
no_values (some comment) n = refl
no_values (some file_end) n = refl
no_values (some version) n = refl
no_values (some description) n = refl
no_values (some system) n = refl
no_values (some aux_start) n = refl
no_values (some aux_end) n = refl
no_values (some header_end) n = refl
no_values (some (head i)) n = refl

-- one value would be due behind a block only
opens_block : (ev : Event) (at C : ℕ) (ps : Placed) → due 1 ev ≡ 1 → at ∷ opened C C ps ≡ opens ev at ++ opened C (due C ev) ps
opens_block Nothing at C ps e = clash e
opens_block (Epoch i x) at C ps e = clash e
opens_block (Marked k i) at C ps e = clash e
opens_block (Block k i b x) at C ps e = refl

opens_none : (ev : Event) (at C : ℕ) (ps : Placed) → due 1 ev ≡ 0 → opened C 0 ps ≡ opens ev at ++ opened C (due C ev) ps
opens_none Nothing at C ps e = refl
opens_none (Epoch i x) at C ps e = refl
opens_none (Marked k i) at C ps e = refl
opens_none (Block k i b x) at C ps e = clash (sym e)

module _ (C : ℕ) (s s' : State) (x : List ℕ) (ev : Event) (k : Takes s x ev s') where
  due_one : due_behind 1 (label x) ≡ due 1 ev
  due_one = due_is 1 (told s) (label x) x [] ∙ ap (λ (u : Turn). u.due) (k 1 [])

  opened_row : (at : ℕ) (ps : Placed) → opened C 0 ((at, x) ∷ ps) ≡ opens ev at ++ opened C (due C ev) ps
  unfolding opened label
  opened_row at ps = by (same (drop 60 x) (name block))
    where
      by : Dec (drop 60 x ≡ name block) → opened C 0 ((at, x) ∷ ps) ≡ opens ev at ++ opened C (due C ev) ps
      by (yes e) =
          let l : label x ≡ some block = ap (λ n. lookup n labels) e ∙ known_maps.3 in
          block_row [] C at x ps e ∙ opens_block ev at C ps (sym due_one ∙ ap (due_behind 1) l)
      by (no n) =
          let l : ¬ (label x ≡ some block) = λ q. n (lookup_name labels (drop 60 x) block q) in
          pick_no (same (drop 60 x) (name block)) _ _ n ∙ opens_none ev at C ps (sym due_one ∙ no_values (label x) l)

-- ---- the stores of one event

entered_one : (n B : ℕ) (ev : Event) (zs : List ℤ) (at : ℕ) (es : List event.Event) (os : List ℕ) (l : Entries)
    → entered_by n B (tells ev zs ++ es) (opens ev at ++ os) l ≡ entered_by n B es os (enters n B ev at l)
unfolding entered_by
entered_one n B Nothing zs at es os l = refl
entered_one n B (Epoch i e) zs at es os l = refl
entered_one n B (Marked k i) zs at es os l = refl
entered_one n B (Block k i b e) zs at es os l = refl

stays : (n B C : ℕ) (N : Kind → ℕ) (ev : Event) (zs : List ℤ) → All (Inside n B C N) (tells ev zs) → Stays n B ev
stays n B C N Nothing zs a = tt
stays n B C N (Epoch i e) zs a = tt
stays n B C N (Marked k i) zs a = a.0
stays n B C N (Block k i b e) zs a = a.0.0

-- ---- from one line to the next

module _ (t : List ℕ) (at c : ℕ) (s : State) (C : ℕ) (inside : at < length t) where
  pub turned_over : placed_from t at ≡ [] → Turned t at c s C (record { at = length t; due = c; event = Nothing; state = s })
  turned_over n = passed inside (omega arith) (n ∙ sym (end_rows t (length t) (omega arith))) refl refl refl

  pub turned_skip : (next : ℕ) → Skips (drop at t) next → Turned t at c s C (record { at = at + next; due = c; event = Nothing; state = s })
  turned_skip next h = passed (omega (arith, h.ahead)) (skip_in t at (omega arith) next h) (skip_rows t at next h) refl refl refl

  module _ (w next : ℕ) (h : Rows (drop at t) w next) where
    pub turned_value : (d : ℕ) → 0 < c → d ≡ c - 16 → Turned t at c s C (record { at = at + next; due = d; event = Nothing; state = s })
    turned_value d z e = valued _ (omega (arith, h.ahead)) (row_in t at (omega arith) w next h) (row_rows t at w next h) z e refl refl

    pub turned_row : (d : ℕ) (ev : Event) (s' : State) → c ≡ 0 → d ≡ due C ev → Takes s (pad (take (at + w - at) (drop at t))) ev s' → Turned t at c s C (record { at = at + next; due = d; event = ev; state = s' })
    turned_row d ev s' z e k = taken _ (omega (arith, h.ahead)) (row_in t at (omega arith) w next h) (row_rows t at w next h) z e k

-- ---- the loop

abbrev ahead_of : (C : ℕ) → List ℕ → (at c : ℕ) → State → List event.Event
ahead_of C t at c s = brought C (told s) c (just_rows (placed_from t at))

-- in front of a line
pub record Going (n B C : ℕ) (N : Kind → ℕ) (t : List ℕ) (aim : Entries) (at c : ℕ) (s : State) (l : Entries) : Type 0 where
  pub within : at ≤ length t
  pub small : Small n B (told s)
  pub inside : All (Inside n B C N) (ahead_of C t at c s)
  pub goal : entered_by n B (ahead_of C t at c s) (opened C c (placed_from t at)) l ≡ aim

pub going_start : (n B C : ℕ) (t : List ℕ) (e e' : ℤ) (at : ℕ) (l : Entries) → e' ≡ e → at ≤ length t → (k : Steady n B C e (placed_from t at) l)
    → Going n B C k.lengths t (entered_from n B C e' (placed_from t at) l) at 0 (first_state e') l
going_start n B C t e e' at l q w k =
    record {
      within = w;
      small = (omega arith, omega arith);
      inside = subst (λ z. All (Inside n B C k.lengths) (brought C (at_first z) 0 (just_rows (placed_from t at)))) (sym q) k.inside;
      goal = refl;
    }

-- no store changes a length
pub record Sized (l m : Entries) : Type 0 where
  pub positions : length l.positions ≡ length m.positions
  pub exponents : length l.exponents ≡ length m.exponents
  pub marks : length l.marks ≡ length m.marks

pub sized : (n B : ℕ) (es : List event.Event) (os : List ℕ) (l : Entries) → Sized l (entered_by n B es os l)
unfolding entered_by
sized n B es os l =
    record {
      positions = sym (starts_length n B es os l.positions);
      exponents = sym (scan_length (put_exponent n B) (keeps_exponents n B) es l.exponents);
      marks = sym (scan_length put_mark keeps_marks es l.marks);
    }

value_brought : (C : ℕ) (s : Now) (c : ℕ) (x : List ℕ) (rs : List (List ℕ)) → 0 < c → brought C s c (x ∷ rs) ≡ brought C s (c - 16) rs
unfolding brought
value_brought C s zero x rs h = absurd (omega arith)
value_brought C s (suc c) x rs h = refl

module _ (n B C : ℕ) (N : Kind → ℕ) (t : List ℕ) (aim : Entries) (at c : ℕ) (s : State) (l : Entries) (g : Going n B C N t aim at c s l) where
  pub going_sized : Sized l aim
  going_sized = subst (Sized l) g.goal (sized n B (ahead_of C t at c s) (opened C c (placed_from t at)) l)

  pub going_done : length t ≤ at → l ≡ aim
  unfolding brought opened entered_by
  going_done h = sym (none_left c) ∙ ap (λ ps. entered_by n B (brought C (told s) c (just_rows ps)) (opened C c ps) l) (sym (end_rows t at h)) ∙ g.goal
    where
      none_left : (c : ℕ) → entered_by n B (brought C (told s) c []) (opened C c []) l ≡ l
      none_left c = refl

  -- between a row and what it stores
  pub record Next (r : Step) : Type 0 where
    pub small : Small n B (told r.state)
    pub stays : Stays n B r.event
    pub inside : All (Inside n B C N) (ahead_of C t r.at r.due r.state)
    pub goal : entered_by n B (ahead_of C t r.at r.due r.state) (opened C r.due (placed_from t r.at)) (enters n B r.event at l) ≡ aim

  quiet : (r : Step) (z : ahead_of C t at c s ≡ ahead_of C t r.at r.due s) → opened C c (placed_from t at) ≡ opened C r.due (placed_from t r.at) → r.event ≡ Nothing → r.state ≡ s → Next r
  quiet r z o k q =
      rw (k, q) (record {
        small = g.small;
        stays = tt;
        inside = subst (λ es. All (Inside n B C N) es) z g.inside;
        goal = (λ i. entered_by n B (sym z i) (sym o i) l) ∙ g.goal;
      })

  takes : (x : List ℕ) (r : Step) → placed_from t at ≡ (at, x) ∷ placed_from t r.at → c ≡ 0 → r.due ≡ due C r.event → Takes s x r.event r.state → Next r
  unfolding brought
  takes x r e z d k =
      let ps : Placed = placed_from t r.at in
      let rs : List (List ℕ) = just_rows ps in
      let u : turn C (told s) (label x) x rs ≡ turned C rs r.event r.state = k C rs in
      let fs : List event.Event = tells r.event (values_ahead C rs) in
      let gs : List event.Event = brought C (told r.state) (due C r.event) rs in
      let b : ahead_of C t at c s ≡ fs ++ gs =
      (λ i. brought C (told s) (z i) (just_rows (e i))) ∙ ap (λ (v : Turn). v.events ++ brought C v.next v.due rs) u in
      let o : opened C c (placed_from t at) ≡ opens r.event at ++ opened C (due C r.event) ps = (λ i. opened C (z i) (e i)) ∙ opened_row C s r.state x r.event k at ps in
      let a : All (Inside n B C N) (fs ++ gs) = subst (λ es. All (Inside n B C N) es) b g.inside in
      record {
        small = subst (λ (v : Turn). All (Inside n B C N) v.events → Small n B v.next) u (small_turn n B C N (told s) g.small (label x) x rs) (all_front (Inside n B C N) fs gs a);
        stays = stays n B C N r.event (values_ahead C rs) (all_front (Inside n B C N) fs gs a);
        inside = subst (λ j. All (Inside n B C N) (brought C (told r.state) j rs)) (sym d) (all_behind (Inside n B C N) fs gs a);
        goal = ap (λ j. entered_by n B (brought C (told r.state) j rs) (opened C j ps) (enters n B r.event at l)) d
            ∙ sym (entered_one n B r.event (values_ahead C rs) at gs (opened C (due C r.event) ps) l) ∙ (λ i. entered_by n B (sym b i) (sym o i) l) ∙ g.goal;
      }

  pub going_next : (r : Step) → Turned t at c s C r → Next r
  going_next r (passed a w e d k q) = quiet r (λ i. brought C (told s) (sym d i) (just_rows (e i))) (λ i. opened C (sym d i) (e i)) k q
  going_next r (valued x a w e z d k q) =
      quiet r (ap (λ ps. brought C (told s) c (just_rows ps)) e ∙ value_brought C (told s) c x (just_rows (placed_from t r.at)) z ∙ ap (λ j. brought C (told s) j (just_rows (placed_from t r.at))) (sym d))
      (ap (opened C c) e ∙ value_row t C c (at, x) (placed_from t r.at) z ∙ ap (λ j. opened C j (placed_from t r.at)) (sym d)) k q
  going_next r (taken x a w e z d k) = takes x r e z d k

  pub going_more : (r : Step) → Turned t at c s C r → (l' : Entries) → l' ≡ enters n B r.event at l → Going n B C N t aim r.at r.due r.state l'
  going_more r u l' e =
      let k = going_next r u in
      record {
        within = far u;
        small = k.small;
        inside = k.inside;
        goal = ap (λ x. entered_by n B (ahead_of C t r.at r.due r.state) (opened C r.due (placed_from t r.at)) x) e ∙ k.goal;
      }
    where
      far : Turned t at c s C r → r.at ≤ length t
      far (passed a w e d k q) = w
      far (valued x a w e z d k q) = w
      far (taken x a w e z d k) = w

-- areas of the same lengths have the same room
pub as_long : {n B : ℕ} {l l₀ : Entries} → Sized l l₀ → Roomy n B l₀ → Roomy n B l
as_long z r = record { positions = omega (arith, z.positions, r.positions); exponents = omega (arith, z.exponents, r.exponents); marks = omega (arith, z.marks, r.marks) }

pub as_found : (n B : ℕ) (es : List event.Event) (os : List ℕ) (l l₀ : Entries) → Sized l (entered_by n B es os l₀) → Sized l l₀
as_found n B es os l l₀ z =
    let k = sized n B es os l₀ in
    record { positions = z.positions ∙ sym k.positions; exponents = z.exponents ∙ sym k.exponents; marks = z.marks ∙ sym k.marks }

pub ahead : {t : List ℕ} {at c : ℕ} {s : State} {C : ℕ} {r : Step} → Turned t at c s C r → at < r.at
ahead (passed a w e d k q) = a
ahead (valued x a w e z d k q) = a
ahead (taken x a w e z d k) = a

-- ---- the stores by themselves

pub kept_as : (n B : ℕ) (ev ev' : Event) (l : Entries) → ev ≡ ev' → Kept n B ev l → Kept n B ev' l
kept_as n B ev ev' l e k = subst (λ v. Kept n B v l) e k

-- ---- all of it

pub steady_cleared : (n B C : ℕ) (t : List ℕ) (l l' : Entries) (w : Walk) → Entered n B C t l → Begins t w → l' ≡ cleared n B l → Steady n B C w.exponent (placed_from t w.at) l'
steady_cleared n B C t l l' w k b e =
    let s : Steady n B C w.exponent (placed_from t w.at) l = subst (λ (x : ℤ × Placed). Steady n B C x.0 x.1 l) (sym b.maps) k in
    let z : Sized (cleared n B l) l =
    record { positions = fill_length 0 (3 * (n * B)) l.positions k.room.positions; exponents = fill_length (negsuc 0) (3 * (n * B)) l.exponents k.room.exponents; marks = fill_length 0 n l.marks k.room.marks } in
    record { room = subst (Roomy n B) (sym e) (as_long z k.room); lengths = s.lengths; inside = s.inside }
