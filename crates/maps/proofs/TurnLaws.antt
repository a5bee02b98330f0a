-- The maps, line by line.
use Rattle.std.specs.Prelude.{Option, Some, None, Result, Ok, Err}
use mathlib.Core.Path.{◌≡◌, refl, sym, ap, ◌∙◌, subst}
use mathlib.Core.Logic.{◌⊎◌, ⊎_elim}
use mathlib.Core.Bool.{or-false}
use mathlib.Core.List.{List, [], ◌∷◌}
use Prim.Native.Nat.{ℕ, suc, ◌+◌, ◌-◌, ◌≤◌, ◌<◌, ◌^◌}
use native.Mathlib.Numerals.{add-one}
use native.Mathlib.Omega.{arith}
use lib.Dec.{ltb}
use lib.IntN.{ℤ}
use lib.ListN.{length, take, drop, set, length-set, length-append}
use lib.Seq.{length-take-le, take-suc-set}
use Rattle.std.specs.Result.{IsErr, IsErrAnd, MatchResult}
use Rattle.kit.specs.Answer.{Answer, ok, refused, bind, amap}
use Rattle.kit.proofs.TruthLaws.{clash}
use Rattle.mapset.specs.declared.Header.{Header}
use Rattle.mapset.specs.MapSet.{Maps}
use Rattle.layout.specs.Layout.{Force}
use Rattle.layout.specs.Text.{pad}
use Rattle.reading.specs.declared.Fault.{Fault}
use Rattle.reading.specs.declared.Why.{Why}
use Rattle.reading.specs.Feed.{why, on_line, bad, split, feed}
use Rattle.reading.specs.Maps.{Todo, Next as GoOn, Step, short, finish, run, step}
use Rattle.reading.specs.declared.Open.{Open}
use Rattle.reading.specs.declared.Place.{Place}
use Rattle.reading.specs.declared.Place.TheVariants.{Ended, Between, Early, Inside}
use Rattle.read_lines.specs.Leads.{LeadsOver, LeadsRow}
use Rattle.read_blocks.specs.Blocks.{values, Done}
use Rattle.read_blocks.proofs.RunLaws.{in_front, resumed, run_values}
use Rattle.read_blocks.proofs.BlockLaws.{short_at}
use Rattle.maps_bounds.specs.Steps.{force_of, past_of, first_of, moved}
use Rattle.maps.specs.Turns.{told, told_after, from, ended_with, grow, MapRoom, Fits, After, Goes, Turned, Keeps, Running}
use Rattle.maps_bounds.specs.declared.Past.{Past}
use Rattle.maps_bounds.specs.declared.Next.{Next}
use Rattle.read_needs.specs.declared.Others.{Others}
use Rattle.maps.specs.declared.Turn.{Turn}
use Rattle.maps.specs.declared.Turn.TheVariants.{On, Over}
use Rattle.maps.proofs.FairLaws.{Fair, step_fair}

-- ---- a refusal that `?` hands on

pub handed : {T : Type 0} {w : Why} (r : Result T Why) → IsErr r × IsErrAnd r (λ e. e ≡ w) → r ≡ Err w
handed (Ok x) h = absurd h.1
handed (Err e) h = ap Err h.1

-- of `map_err`
pub mapped_ok : {T E D : Type 0} (P : E → D → Type 0) {x : T} (s : Result T E) (r : Result T D) → MatchResult s (λ y. r ≡ Ok y) (λ e. IsErrAnd r (P e)) → r ≡ Ok x → s ≡ Ok x
mapped_ok P (Ok y) r h e = cc
mapped_ok P (Err f) (Ok y) h e = absurd h
mapped_ok P (Err f) (Err w) h e = cc

pub mapped_err : {T E D : Type 0} (P : E → D → Type 0) {w : D} (s : Result T E) (r : Result T D) → MatchResult s (λ y. r ≡ Ok y) (λ e. IsErrAnd r (P e)) → r ≡ Err w → (f : E) × (s ≡ Err f) × P f w
mapped_err P (Ok y) r h e = cc
mapped_err P (Err f) (Ok y) h e = absurd h
mapped_err P (Err f) (Err w) h e = (f, refl, subst (P f) (cc) h)

-- ---- the start and the end

pub told_start : (p : Past) → p.rms ≡ 0 → p.height ≡ 0 → (x : Answer Why (List ℤ × Maps)) → told_after Between (force_of p []) x ≡ told x
unfolding told_after told
told_start p e f (ok w) = rw (e, f)
told_start p e f (refused w) = refl

any_epochs : (q : Place) (p : Past) (es : List ℕ) (x : Answer Why (List ℤ × Todo q)) → told_after q (force_of p []) x ≡ told_after q (force_of p es) x
unfolding told_after
any_epochs q p es (ok w) = refl
any_epochs q p es (refused w) = refl

pub finish_ended : (p : Past) (n : ℕ) → ◌≡◌ {A = Result Others Why} (Ok (record { rms = ltb 0 p.rms; height = ltb 0 p.height })) (ended_with Ended (force_of p []) n)
unfolding finish told_after
finish_ended p n = λ i. Ok (record { rms = sym (or-false (ltb 0 p.rms)) i; height = sym (or-false (ltb 0 p.height)) i })

module _ (p : Force) (n : ℕ) (h : n < 2 ^ 63) where
  ten : (q : Place) → finish q (suc n) ≡ short (suc n) → Err (why 10 (n + 1) 0) ≡ ended_with q p (suc n)
  unfolding told_after
  ten q e = rw (e ∙ short_at n (omega arith))

  pub finish_early : (q : Place) → (q ≡ Between) ⊎ ((q ≡ Early) ⊎ ((o : Open) × q ≡ Inside o)) → Err (why 10 (n + 1) 0) ≡ ended_with q p (suc n)
  unfolding finish
  finish_early Ended s = absurd (⊎_elim (λ e. cc) (λ t. ⊎_elim (λ e. cc) (λ x. let e = x.1 in cc) t) s)
  finish_early Between s = ten Between refl
  finish_early Early s = ten Early refl
  finish_early (Inside o) s = ten (Inside o) refl

-- ---- a block's values at once

told_front : (q : Place) (p : Force) (zs : List ℤ) (x : Answer Why (List ℤ × Todo q)) → told_after q p (in_front zs x) ≡ told_after q p x
unfolding told_after amap
told_front q p zs (ok w) = refl
told_front q p zs (refused w) = refl

module _ (h : Header) (q : Place) (p : Force) (t : List ℕ) (at n c : ℕ) where
  after_good : {at' n' : ℕ} → Done t at n c at' n' → from h q p c t at n ≡ from h q p 0 t at' n'
  unfolding bind
  after_good d = ap (told_after q p) (run_values h q p c (feed (suc n) (split (drop at t))) ∙ ap (resumed h q p) d.on) ∙ told_front q p d.have _

  after_refused : {w : Why} → values (feed (suc n) (split (drop at t))) c ≡ refused w → from h q p c t at n ≡ Err w
  unfolding told_after bind
  after_refused e = ap (told_after q p) (run_values h q p c (feed (suc n) (split (drop at t))) ∙ ap (resumed h q p) e)

-- ---- a line

-- what is told after a step
told_back : (h : Header) (q : Place) (p : Force) (x : GoOn q) → Fair h q p x → (w : Answer Why (List ℤ × Todo x.to))
    → told_after q p (amap (λ w. ([], x.back w.0 w.1)) w) ≡ told_after x.to x.force w
unfolding told_after amap
told_back h q p x f (ok w) = λ i. Ok (record { rms = f.rms w.0 w.1 i; height = f.height w.0 w.1 i })
told_back h q p x f (refused w) = refl

moved_stop : {q : Place} (es : List ℕ) (s : Step q) (f : Fault) → moved es s ≡ Err f → s ≡ refused f
unfolding moved
moved_stop es (ok x) f e = clash (cc)
moved_stop es (refused g) f e = let z : g ≡ f = cc in ap refused z

-- where the code goes on, the step does
pub record Same {q : Place} (es : List ℕ) (s : Step q) (y : Next) : Type 0 where
  pub on : GoOn q
  pub is : s ≡ ok on
  pub to : on.to ≡ y.to
  pub past : past_of on.force ≡ y.past
  pub due : on.due ≡ y.due
  pub epoch : first_of (drop (length es) on.force.epochs) ≡ y.epoch

moved_go : {q : Place} (es : List ℕ) (s : Step q) (y : Next) → moved es s ≡ Ok y → Same es s y
unfolding moved
moved_go es (ok x) y e =
    let f : record { to = x.to; past = past_of x.force; due = x.due; epoch = first_of (drop (length es) x.force.epochs) } ≡ y = cc in
    record { on = x; is = refl; to = ap (λ (z : Next). z.to) f; past = ap (λ (z : Next). z.past) f; due = ap (λ (z : Next). z.due) f; epoch = ap (λ (z : Next). z.epoch) f }
moved_go es (refused f) y e = clash (cc)

module _ (h : Header) (q : Place) (p : Past) (es : List ℕ) (t : List ℕ) (at n : ℕ) where
  pub turn_over : (m : ℕ) → LeadsOver t at n m → (m ≤ length t) × (from h q (force_of p es) 0 t at n ≡ ended_with q (force_of p es) (suc m))
  unfolding run
  turn_over m s = (s.few, rw s.on)

  pub turn_bad : (w : Why) → feed (suc n) (split (drop at t)) ≡ bad w → from h q (force_of p es) 0 t at n ≡ Err w
  unfolding run told_after
  turn_bad w s = rw s

  module _ (start end next m : ℕ) (s : LeadsRow t at n start end next m) (v : Result Next Fault) (is : v ≡ moved es (step h q (force_of p es) (pad (take (end - start) (drop start t))))) where
    abbrev the_step : Step q
    the_step = step h q (force_of p es) (pad (take (end - start) (drop start t)))

    seen_row : from h q (force_of p es) 0 t at n
        ≡ told_after q (force_of p es) (bind (on_line (suc m) the_step) (λ x. amap (λ w. ([], x.back w.0 w.1)) (run h x.to x.force x.due (feed (suc (m + 1)) (split (drop next t))))))
    unfolding run
    seen_row = rw (s.on, add-one)

    pub turn_stop : (f : Fault) → v ≡ Err f → from h q (force_of p es) 0 t at n ≡ Err (why f.number (m + 1) f.column)
    unfolding told_after bind on_line
    turn_stop f e = seen_row ∙ rw (moved_stop es the_step f (sym is ∙ e), add-one)

    module _ (y : Next) (e : v ≡ Ok y) where
      the_same : Same es the_step y
      the_same = moved_go es the_step y (sym is ∙ e)

      fair : Fair h q (force_of p es) the_same.on
      fair = step_fair h q (force_of p es) _ the_same.on the_same.is

      force_is : the_same.on.force ≡ force_of y.past (grow y.epoch es)
      force_is =
          let a = the_same in
          let f = fair.epochs ∙ ap (λ (z : Option ℕ). grow z es) a.epoch in
          λ i. force_of (a.past i) (f i)

      pub went : from h q (force_of p es) 0 t at n ≡ from h y.to (force_of y.past (grow y.epoch es)) y.due t next (m + 1)
      unfolding bind on_line
      went =
          let a = the_same in
          let g = feed (suc (m + 1)) (split (drop next t)) in
          seen_row
          ∙ ap (λ (z : Answer Fault (GoOn q)). told_after q (force_of p es) (bind (on_line (suc m) z) (λ x. amap (λ w. ([], x.back w.0 w.1)) (run h x.to x.force x.due g)))) a.is
          ∙ told_back h q (force_of p es) a.on fair (run h a.on.to a.on.force a.on.due g)
          ∙ (λ i. told_after (a.to i) (force_is i) (run h (a.to i) (force_is i) (a.due i) g))

      room : MapRoom h q (length es) → MapRoom h y.to (length (grow y.epoch es))
      room k = subst (λ (z : Place). MapRoom h z (length (grow y.epoch es))) the_same.to (subst (λ (z : Force). MapRoom h the_same.on.to (length z.epochs)) force_is (fair.room k))

      pub turn_go : (r : Result Turn Why) → After t next (m + 1) y r → Turned h q p es t at n r
      turn_go (Ok (On k z)) b =
          let a = s.ahead in
          let f = s.after in
          let d = b.1 in
          let o = d.ahead in
          let g : Goes h q p es t at n k.next k.lines y =
          record { ahead = omega arith; within = d.within; small = d.small; on = went ∙ after_good h y.to _ t next (m + 1) y.due d; room = room } in
          subst (Goes h q p es t at n k.next k.lines) (sym b.0) g
      turn_go (Ok (Over l)) b = absurd b
      turn_go (Err w) b = went ∙ after_refused h y.to _ t next (m + 1) y.due b

-- ---- the table of epochs

pub keep_none : (t : List ℕ) (k : ℕ) → k ≤ length t → Keeps t k None t k
keep_none t k h = record { len = refl; small = h; is = refl }

pub keep_new : (t : List ℕ) (k e : ℕ) → k < length t → Keeps t k (Some e) (set t k e) (k + 1)
keep_new t k e h = record { len = length-set t k e; small = omega arith; is = rw add-one (take-suc-set t k e h) }

pub keeps_as : {t u : List ℕ} {k r : ℕ} (x o : Option ℕ) → Keeps t k o u r → x ≡ o → Keeps t k x u r
keeps_as {t} {u} {k} {r} x o h e = subst (λ (z : Option ℕ). Keeps t k z u r) (sym e) h

pub fits_as : (x o : Option ℕ) (k l : ℕ) → Fits x k l → x ≡ o → Fits o k l
fits_as x o k l f e = subst (λ (z : Option ℕ). Fits z k l) e f

-- ---- the loop

pub turned : (h : Header) (q : Place) (p : Past) (es t : List ℕ) (at n : ℕ) (r o : Result Turn Why) → Turned h q p es t at n r → r ≡ o → Turned h q p es t at n o
turned h q p es t at n r o d e = subst (Turned h q p es t at n) e d

pub ended_as : (q : Place) (p : Past) (es : List ℕ) (n : ℕ) → ended_with q (force_of p []) n ≡ ended_with q (force_of p es) n
ended_as q p es n = any_epochs q p es (finish q n)

module _ (h : Header) (p₀ : Past) (t : List ℕ) (a₀ n₀ l : ℕ) (wide : h.times.maps ≤ l) where
  room_all : (q : Place) (k : ℕ) → MapRoom h q k → k ≤ h.times.maps
  room_all Ended k r = r
  room_all Between k r = r
  room_all Early k r = omega arith
  room_all (Inside o) k r = r

  fits_grown : (x : Option ℕ) (es : List ℕ) (k : ℕ) → length es ≡ k → length (grow x es) ≤ h.times.maps → Fits x k l
  fits_grown None es k e g = omega arith
  fits_grown (Some z) es k e g = let s = length-append es (z ∷ []) in omega arith

  module _ (tab : List ℕ) (q : Place) (p : Past) (at n k : ℕ) (i : Running h p₀ t a₀ n₀ l tab q p at n k) where
    es_length : length (take k tab) ≡ k
    es_length = length-take-le k tab (let a = i.upto in let b = i.sized in omega arith)

    module _ (at' n' : ℕ) (x : Next) (g : Goes h q p (take k tab) t at n at' n' x) where
      roomy : MapRoom h x.to (length (grow x.epoch (take k tab)))
      roomy = g.room (subst (MapRoom h q) (sym es_length) i.room)

      pub run_fits : Fits x.epoch k (length tab)
      run_fits = subst (Fits x.epoch k) (sym i.sized) (fits_grown x.epoch (take k tab) k es_length (room_all x.to _ roomy))

      pub run_more : (tab' : List ℕ) (k' : ℕ) → Keeps tab k x.epoch tab' k' → Running h p₀ t a₀ n₀ l tab' x.to x.past at' n' k'
      run_more tab' k' e =
          let z = e.small in let y = e.len in let v = i.sized in
          let len : length (take k' tab') ≡ k' = length-take-le k' tab' (omega arith) in
          record {
            within = g.within;
            small = g.small;
            upto = omega arith;
            sized = e.len ∙ i.sized;
            room = subst (MapRoom h x.to) (sym (ap length e.is) ∙ len) roomy;
            on = i.on ∙ g.on ∙ ap (λ (y : List ℕ). from h x.to (force_of x.past y) 0 t at' n') (sym e.is);
          }
