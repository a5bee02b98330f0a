-- Ask 5 over the contract of `ionex_week_add`: the week after any number of calls does not depend on their order.
use mathlib.Core.Path.{◌≡◌, refl, sym, ap, subst, ◌∙◌}
use mathlib.Core.List.Permᴰ
use mathlib.Core.List.{List, [], ◌∷◌, ◌++◌, append-nil, append_assoc, Permᴰ}
use Prim.Native.Nat.{ℕ, ◌+◌, ◌≤◌}
use native.Mathlib.Decide.{ℕ_discrete, dec_le}
use native.Mathlib.Omega.{arith}
use lib.IntN.{ℤ}
use lib.ListN.{length, drop, length-append}
use Rattle.kit.specs.Answer.{pick}
use Rattle.kit.specs.Lists.{front}
use Rattle.kit.proofs.AnswerLaws.{pick_yes, pick_no, pick_elim}
use Rattle.c_answers.specs.Own.{too_short, unless}
use Rattle.week.specs.Week.{Given, accepted?, accepted, week_of, added, no_sets, report}
use Rattle.week.specs.Sane.{outcome, kept}
use Rattle.week.proofs.WeekLaws.{report_week, report_permuted}
use Rattle.week.proofs.SaneLaws.{sane_week, kept_added}
use Rattle.week.specs.declared.Week.{Week}
use Rattle.std.specs.Prelude.{Result, Ok, Err}
use Rattle.week.specs.declared.Why.{Why}
use Rattle.c_week.specs.WeekNumbers.{week_numbers, week_at}
use Rattle.c_week.specs.WeekExported.{Crossed, told_week, week_short, crossed, crosses, set_of, week_crossed}
use Rattle.c_week.proofs.Back.{week_back}
use Rattle.c_promises.specs.WeekCalls.{Handed, zeros, Adds, none, call, Long, long?, sets}

-- ---- the areas of a call's own
unfoldable own : Handed → List ℤ → ℕ
own s w = week_short (length s.header) (length s.texts) (length w) (length s.place)

long_none : (s : Handed) (w : List ℤ) → Long s → 16 ≤ length w → own s w ≡ 0
unfolding own week_short too_short unless
long_none s w h k =
    let a : too_short (length s.header) (length s.texts) (length w) 16 ≡ 0 =
    pick_yes (dec_le 45 (length s.header)) _ _ h.0 ∙ pick_yes (dec_le 1324 (length s.texts)) _ _ h.1.0 ∙ pick_yes (dec_le 16 (length w)) _ _ k in
    pick_yes (ℕ_discrete (too_short (length s.header) (length s.texts) (length w) 16) 0) _ _ a
    ∙ pick_yes (dec_le 45 (length s.header)) _ _ h.0 ∙ pick_yes (dec_le 1324 (length s.texts)) _ _ h.1.0 ∙ pick_yes (dec_le 2 (length s.place)) _ _ h.1.1

abbrev Lacks : ℕ → Type 0
Lacks k = ¬ (k ≡ 0)

short_some : (s : Handed) (w : List ℤ) → ¬ Long s → Lacks (own s w)
unfolding own week_short too_short unless
short_some s w n =
    pick_elim Lacks (ℕ_discrete (too_short (length s.header) (length s.texts) (length w) 16) 0)
    (λ _. pick_elim Lacks (dec_le 45 (length s.header))
    (λ p. pick_elim Lacks (dec_le 1324 (length s.texts)) (λ q. pick_elim Lacks (dec_le 2 (length s.place)) (λ r _. n (p, (q, r))) (λ _ e. omega (arith, e))) (λ _ e. omega (arith, e)))
    (λ _ e. omega (arith, e)))
    (λ h. h)

-- ---- one call
after : (W : Week) (a : Result Week Why) (l : List ℤ) → front (told_week a) (front (week_numbers W) l) ≡ front (week_numbers (kept W a)) l
after W (Ok v) l = refl
after W (Err y) l = refl

abbrev set : Handed → Given
set s = set_of s.header s.texts s.areas s.rows

sixteen : (W : Week) (l : List ℤ) → 16 ≤ length (front (week_numbers W) l)
sixteen W l = omega (arith, length-append (week_numbers W) (drop 16 l))

module _ (s : Handed) (w : List ℤ) where
  abbrev result : List ℤ
  result = (week_crossed w s.header s.texts s.areas s.rows s.place).week

  passed_over : ¬ Long s → result ≡ w
  unfolding week_crossed unless own
  passed_over n = ap (λ c. c.week) (pick_no (ℕ_discrete (own s w) 0) (crosses (outcome (week_at w) (set s)) w s.place) (crossed (own s w) w s.rows s.place) (short_some s w n))

  looked_at : Long s → 16 ≤ length w → result ≡ front (told_week (outcome (week_at w) (set s)).answer) w
  unfolding week_crossed unless own crosses
  looked_at h k = ap (λ c. c.week) (pick_yes (ℕ_discrete (own s w) 0) (crosses (outcome (week_at w) (set s)) w s.place) (crossed (own s w) w s.rows s.place) (long_none s w h k))

-- ---- calls one after the other
accepted_append : (ss ts : List Given) → accepted (ss ++ ts) ≡ accepted ss + accepted ts
unfolding accepted
accepted_append [] ts = omega arith
accepted_append (s ∷ ss) ts = let e = accepted_append ss ts in omega arith

report_snoc : (w : Week) (ss : List Given) (s : Given) → report w (ss ++ (s ∷ [])) ≡ added (report w ss) s
unfolding report
report_snoc w [] s = refl
report_snoc w (t ∷ ss) s = report_snoc (added w t) ss s

one_more : (done : List Given) (s : Given) → accepted (done ++ (s ∷ [])) ≤ 100 → kept (week_of done) (outcome (week_of done) s).answer ≡ week_of (done ++ (s ∷ []))
one_more done s h =
    let a = report_week done (omega (arith, accepted_append done (s ∷ []))) in
    kept_added (week_of done) s (sane_week done) ∙ ap (λ (w : Week). added w s) (sym a) ∙ sym (report_snoc no_sets done s) ∙ report_week (done ++ (s ∷ [])) h

week_after : List Given → List ℤ → List ℤ
week_after done l = front (week_numbers (week_of done)) l

step : (s : Handed) (done : List Given) (l : List ℤ) → Long s → accepted (done ++ (set s ∷ [])) ≤ 100 → result s (week_after done l) ≡ week_after (done ++ (set s ∷ [])) l
unfolding week_after
step s done l k h =
    let w : List ℤ = front (week_numbers (week_of done)) l in
    looked_at s w k (sixteen (week_of done) l)
    ∙ ap (λ (v : Week). front (told_week (outcome v (set s)).answer) w) (week_back done l (omega (arith, h, accepted_append done (set s ∷ []))))
    ∙ after (week_of done) (outcome (week_of done) (set s)).answer l
    ∙ ap (λ (v : Week). front (week_numbers v) l) (one_more done (set s) h)

run : (ss : List Handed) (done : List Given) (l : List ℤ) {w : List ℤ} → accepted (done ++ sets ss) ≤ 100 → Adds (week_after done l) ss w → w ≡ week_after (done ++ sets ss) l
unfolding sets pick
run [] done l h none = ap (λ d. week_after d l) (sym (append-nil done))
run (s ∷ ss) done l {w} h (call c e r) = by (long? s) h (λ d. run ss d l)
  where
    by : (d : Dec (Long s)) → accepted (done ++ pick d (set s ∷ sets ss) (sets ss)) ≤ 100
        → ((done : List Given) → accepted (done ++ sets ss) ≤ 100 → Adds (week_after done l) ss w → w ≡ week_after (done ++ sets ss) l)
        → w ≡ week_after (done ++ pick d (set s ∷ sets ss) (sets ss)) l
    by (yes k) h f =
        let g : done ++ (set s ∷ sets ss) ≡ (done ++ (set s ∷ [])) ++ sets ss = sym (append_assoc done (set s ∷ []) (sets ss)) in
        let n : accepted ((done ++ (set s ∷ [])) ++ sets ss) ≤ 100 = subst (λ d. accepted d ≤ 100) g h in
        let m : accepted (done ++ (set s ∷ [])) ≤ 100 = omega (arith, n, accepted_append (done ++ (set s ∷ [])) (sets ss)) in
        f (done ++ (set s ∷ [])) n (subst (λ v. Adds v ss w) (ap (λ (c : Crossed). c.week) e ∙ step s done l k m) r) ∙ ap (λ d. week_after d l) (sym g)
    by (no n) h f = f done h (subst (λ v. Adds v ss w) (ap (λ (c : Crossed). c.week) e ∙ passed_over s (week_after done l) n) r)

-- what the calls leave of 16 zeros: the week of all sets that were looked at, as numbers
pub adds_week : (ss : List Handed) (l : List ℤ) {w : List ℤ} → accepted (sets ss) ≤ 100 → Adds (zeros l) ss w → w ≡ front (week_numbers (week_of (sets ss))) l
unfolding week_after
adds_week ss l {w} h a = run ss [] l h (subst (λ (v : Week). Adds (front (week_numbers v) l) ss w) begin a)
  where
    begin : no_sets ≡ week_of []
    begin = unfold report accepted in report_week [] (omega arith)

-- ---- any order
accepted_permuted : {ss ts : List Given} → Permᴰ ss ts → accepted ss ≡ accepted ts
unfolding accepted
accepted_permuted Permᴰ.nil = refl
accepted_permuted (Permᴰ.cons {a} {b} {l₁} {l₂} e d) = let f = ap (λ (s : Given). pick {X = ℕ} (accepted? s) 1 0) e in let g = accepted_permuted d in omega (arith, f, g)
accepted_permuted (Permᴰ.swap {a} {b} {a'} {b'} {l} e f) =
    let p = ap (λ (s : Given). pick {X = ℕ} (accepted? s) 1 0) e in
    let q = ap (λ (s : Given). pick {X = ℕ} (accepted? s) 1 0) f in
    omega (arith, p, q)
accepted_permuted (Permᴰ.trans d d') = accepted_permuted d ∙ accepted_permuted d'

sets_permuted : {ss ts : List Handed} → Permᴰ ss ts → Permᴰ (sets ss) (sets ts)
unfolding sets pick
sets_permuted Permᴰ.nil = Permᴰ.nil
sets_permuted (Permᴰ.cons {a} {b} {l₁} {l₂} e d) = subst (λ c. Permᴰ (sets (a ∷ l₁)) (sets (c ∷ l₂))) e (by (long? a) (sets_permuted d))
  where
    by : (k : Dec (Long a)) → Permᴰ (sets l₁) (sets l₂) → Permᴰ (pick k (set a ∷ sets l₁) (sets l₁)) (pick k (set a ∷ sets l₂) (sets l₂))
    by (yes h) p = Permᴰ.cons refl p
    by (no h) p = p
sets_permuted (Permᴰ.swap {a} {b} {a'} {b'} {l} e f) =
    subst (λ c. Permᴰ (sets (a ∷ b ∷ l)) (sets (c ∷ b' ∷ l))) f (subst (λ c. Permᴰ (sets (a ∷ b ∷ l)) (sets (b ∷ c ∷ l))) e (by (long? a) (long? b)))
  where
    by : (j : Dec (Long a)) (k : Dec (Long b))
        → Permᴰ (pick j (set a ∷ pick k (set b ∷ sets l) (sets l)) (pick k (set b ∷ sets l) (sets l))) (pick k (set b ∷ pick j (set a ∷ sets l) (sets l)) (pick j (set a ∷ sets l) (sets l)))
    by (yes h) (yes i) = Permᴰ.swap refl refl
    by (yes h) (no i) = Permᴰ.refl (set a ∷ sets l)
    by (no h) (yes i) = Permᴰ.refl (set b ∷ sets l)
    by (no h) (no i) = Permᴰ.refl (sets l)
sets_permuted (Permᴰ.trans d d') = Permᴰ.trans (sets_permuted d) (sets_permuted d')

-- the same calls in another order, from 16 zeros, with at most 100 sets that are accepted: the same 16 numbers, and the same behind them
pub any_order : (ss ts : List Handed) (l : List ℤ) {w v : List ℤ} → Permᴰ ss ts → accepted (sets ss) ≤ 100 → Adds (zeros l) ss w → Adds (zeros l) ts v → w ≡ v
any_order ss ts l d h a b =
    let p = sets_permuted d in
    let g : accepted (sets ts) ≤ 100 = omega (arith, h, accepted_permuted p) in
    adds_week ss l h a ∙ ap (λ (w : Week). front (week_numbers w) l) (sym (report_week (sets ss) h) ∙ report_permuted p h ∙ report_week (sets ts) g) ∙ sym (adds_week ts l g b)
