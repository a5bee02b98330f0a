-- The tests of a week, and what they say of weeks that sets gave.
use mathlib.Core.Path.{◌≡◌, refl, sym, ap, subst, ◌∙◌}
use mathlib.Core.Bool.{◌&&◌}
use mathlib.Core.List.{List, [], ◌∷◌, Permᴰ}
use Prim.Native.Nat.{ℕ, zero, suc, ◌+◌, ◌≤◌, ◌<◌}
use native.Mathlib.Decide.{dec_le}
use native.Mathlib.Omega.{arith}
use borrow.Author.Tests.{ne_eqb, lt-ltb}
use lib.Dec.{T, eqb, ltb}
use lib.IntN.{ℤ}
use lib.Signed.{le_z}
use Rattle.kit.specs.Answer.{pick}
use Rattle.kit.proofs.AnswerLaws.{pick_yes, pick_no, pick_elim}
use lib.ListN.{length, drop}
use lib.Seq.{drop_at}
use Rattle.kit.specs.Lists.{front}
use Rattle.kit.specs.Truth.{truth}
use Rattle.kit.proofs.TruthLaws.{tells}
use Rattle.kit.specs.Integer.{le?}
use Rattle.week_tally.specs.Figures.{figures, joined, Ready}
use Rattle.week_tally.proofs.FigureLaws.{fit_all, joined_fit, nodes_figures, nodes_joined, bounded_joined}
use Rattle.week_set.specs.SetFigures.{kind_nodes, kind_figures, set_rows, rows_need}
use Rattle.week_set.proofs.RowLaws.{set_rows_length}
use Rattle.week_set.proofs.SetLaws.{kind_bounded}
use Rattle.week_tally.specs.declared.Tally.{Tally}
use Rattle.std.specs.Prelude.{Some, None, Ok, Err}
use Rattle.week_tally.specs.declared.Range.{Range}
use Rattle.week.specs.Week.{Given, ValidSet, valid?, RowRoom, room?, Accepted, accepted?, accepted, week_nodes, week_of, grown, added, no_sets, report}
use Rattle.week.proofs.WeekLaws.{week_bounded, week_size, set_size, report_week, report_permuted}
use Rattle.week.specs.Sane.{Fair, Sane, fit?, sane?, Outcome, comes, outcome, kept, SmallWeek, SmallAnswer}
use Rattle.week.specs.declared.Week.{Week}
use Rattle.week.specs.declared.Why.{Why}
use Rattle.week.specs.declared.Why.TheVariants as Y

-- ---- ranges
le_tells : (a b : ℤ) → le_z a b ≡ truth (le? a b)
le_tells a b = tells (le_z a b) (le? a b) (λ e. record { le = subst T (sym e) tt }) (λ e h. subst T e h.le)

pub fit_none : (n : ℕ) → eqb n 0 ≡ truth (fit? n None)
unfolding fit? truth
fit_none zero = refl
fit_none (suc n) = ne_eqb (suc n) 0 (λ e. omega arith)

pub fit_some : (n : ℕ) (r : Range) → (ltb 0 n && le_z r.smallest r.largest) ≡ truth (fit? n (Some r))
unfolding fit? truth
fit_some zero r = refl
fit_some (suc n) r = ap (◌&& le_z r.smallest r.largest) (lt-ltb 0 (suc n) (omega arith)) ∙ le_tells r.smallest r.largest

-- ---- a week that sets gave can be added to
fair_week : (k : ℕ) (ss : List Given) → Fair (accepted ss) (figures (week_nodes k ss))
fair_week k ss = (omega (arith, nodes_figures (week_nodes k ss), week_size k ss), (week_bounded k ss, fit_all (week_nodes k ss)))

pub sane_week : (ss : List Given) → Sane (week_of ss)
unfolding week_of
sane_week ss = (fair_week 0 ss, (fair_week 1 ss, fair_week 2 ss))

-- ---- the answer, case by case
module _ (w : Week) (s : Given) where
  pub answer_full : 100 ≤ w.sets → outcome w s ≡ comes (Err Y.Full) s.rows
  unfolding outcome
  answer_full f = pick_yes (dec_le 100 w.sets) _ _ f

  module _ (n : w.sets < 100) where
    not_full : ¬ (100 ≤ w.sets)
    not_full f = omega arith

    pub answer_insane : ¬ Sane w → outcome w s ≡ comes (Err Y.Invalid) s.rows
    unfolding outcome
    answer_insane h = pick_no (dec_le 100 w.sets) _ _ not_full ∙ pick_no (sane? w) _ _ h

    module _ (h : Sane w) where
      pub answer_invalid : ¬ ValidSet s → outcome w s ≡ comes (Err Y.Invalid) s.rows
      unfolding outcome
      answer_invalid v = pick_no (dec_le 100 w.sets) _ _ not_full ∙ pick_yes (sane? w) _ _ h ∙ pick_no (valid? s) _ _ v

      module _ (v : ValidSet s) where
        pub answer_short : ¬ RowRoom s → outcome w s ≡ comes (Err (Y.Short (rows_need s.header))) s.rows
        unfolding outcome
        answer_short r = pick_no (dec_le 100 w.sets) _ _ not_full ∙ pick_yes (sane? w) _ _ h ∙ pick_yes (valid? s) _ _ v ∙ pick_no (room? s) _ _ r

        pub answer_into : RowRoom s → outcome w s ≡ comes (Ok (grown w s.header s.areas)) (front (set_rows s.header s.areas) s.rows)
        unfolding outcome
        answer_into r = pick_no (dec_le 100 w.sets) _ _ not_full ∙ pick_yes (sane? w) _ _ h ∙ pick_yes (valid? s) _ _ v ∙ pick_yes (room? s) _ _ r

-- ---- the answer is the week of `added`, where the week is one that can be added to
pub kept_added : (w : Week) (s : Given) → Sane w → kept w (outcome w s).answer ≡ added w s
unfolding added
kept_added w s h = by (dec_le 100 w.sets) (valid? s) (room? s)
  where
    told : {o : Outcome} → outcome w s ≡ o → kept w (outcome w s).answer ≡ kept w o.answer
    told e = ap (λ (o : Outcome). kept w o.answer) e

    left : ¬ (100 ≤ w.sets) → ¬ Accepted s → added w s ≡ w
    left n a = pick_no (dec_le 100 w.sets) w (pick (accepted? s) (grown w s.header s.areas) w) n ∙ pick_no (accepted? s) (grown w s.header s.areas) w a

    by : Dec (100 ≤ w.sets) → Dec (ValidSet s) → Dec (RowRoom s) → kept w (outcome w s).answer ≡ added w s
    by (yes f) a r = told (answer_full w s f) ∙ sym (pick_yes (dec_le 100 w.sets) _ _ f)
    by (no n) (no v) r = told (answer_invalid w s (omega arith) h v) ∙ sym (left n (λ a. v a.0))
    by (no n) (yes v) (no r) = told (answer_short w s (omega arith) h v r) ∙ sym (left n (λ a. r a.1))
    by (no n) (yes v) (yes r) =
        told (answer_into w s (omega arith) h v r)
        ∙ sym (pick_no (dec_le 100 w.sets) _ _ n ∙ pick_yes (accepted? s) _ _ (v, r))

-- ---- answers one after the other: the report, from any week that can be added to
unfoldable pub answered : Week → List Given → Week
answered w [] = w
answered w (s ∷ ss) = answered (kept w (outcome w s).answer) ss

fair_joined : (m n : ℕ) (t u : Tally) → Fair m t → Fair n u → Fair (m + n) (joined t u)
fair_joined m n t u f g = (omega (arith, nodes_joined t u, f.0, g.0), (bounded_joined t u f.1.0 g.1.0, joined_fit t u f.1.1 g.1.1))

fair_set : (k : ℕ) (s : Given) → Accepted s → Fair 1 (kind_figures k s.header s.areas)
fair_set k s v =
    (omega (arith, nodes_figures (kind_nodes k s.header s.areas), set_size k s v), (kind_bounded k s.header s.areas, fit_all (kind_nodes k s.header s.areas)))

sane_grown : (w : Week) (s : Given) → Sane w → Accepted s → Sane (grown w s.header s.areas)
unfolding grown
sane_grown w s h v =
    (fair_joined w.sets 1 w.tec.0 _ h.0 (fair_set 0 s v), (fair_joined w.sets 1 w.rms.0 _ h.1.0 (fair_set 1 s v), fair_joined w.sets 1 w.height.0 _ h.1.1 (fair_set 2 s v)))

pub sane_added : (w : Week) (s : Given) → Sane w → Sane (added w s)
unfolding added
sane_added w s h = pick_elim Sane (dec_le 100 w.sets) (λ _. h) (λ _. pick_elim Sane (accepted? s) (λ v. sane_grown w s h v) (λ _. h))

-- ---- the numbers of a week that is answered are small
small_fair : (n : ℕ) (t : Tally) → n ≤ 100 → Fair n t → Ready t
small_fair n t h f = (f.1.0, omega (arith, f.0))

small_week : (w : Week) → w.sets ≤ 100 → Sane w → SmallWeek w
small_week w h s = (h, (small_fair w.sets w.tec.0 h s.0, (small_fair w.sets w.rms.0 h s.1.0, small_fair w.sets w.height.0 h s.1.1)))

pub small_answer : (w : Week) (s : Given) → SmallAnswer (outcome w s).answer
unfolding outcome grown
small_answer w s =
    pick_elim Small (dec_le 100 w.sets) (λ _. tt)
    (λ n. pick_elim Small (sane? w)
    (λ h. pick_elim Small (valid? s) (λ v. pick_elim Small (room? s) (λ r. small_week (grown w s.header s.areas) (omega arith) (sane_grown w s h (v, r))) (λ _. tt)) (λ _. tt)) (λ _. tt))
  where
    Small : Outcome → Type 0
    Small o = SmallAnswer o.answer

answered_report : (ss : List Given) (w : Week) → Sane w → answered w ss ≡ report w ss
unfolding answered report
answered_report [] w h = refl
answered_report (s ∷ ss) w h = rw (kept_added w s h) (answered_report ss (added w s) (sane_added w s h))

sane_none : Sane no_sets
sane_none = ((omega arith, (omega arith, tt)), ((omega arith, (omega arith, tt)), (omega arith, (omega arith, tt))))

pub answered_week : (ss : List Given) → accepted ss ≤ 100 → answered no_sets ss ≡ week_of ss
answered_week ss h = answered_report ss no_sets sane_none ∙ report_week ss h

-- the figures over all files, up to a hundred valid ones, do not depend on the order they came in
pub answered_permuted : {ss ts : List Given} → Permᴰ ss ts → accepted ss ≤ 100 → answered no_sets ss ≡ answered no_sets ts
answered_permuted {ss} {ts} d h = answered_report ss no_sets sane_none ∙ report_permuted d h ∙ sym (answered_report ts no_sets sane_none)

front_behind : {A : Type 0} (xs l : List A) (n : ℕ) → length xs ≡ n → drop n (front xs l) ≡ drop n l
front_behind xs l n e = drop_at xs (drop (length xs) l) n e ∙ ap (λ (k : ℕ). drop k l) e

-- ---- after a refusal the area for the rows is as before, and always what lies behind the rows
pub refused_rows : (w : Week) (s : Given) (y : Why) → (outcome w s).answer ≡ Err y → (outcome w s).rows ≡ s.rows
unfolding outcome
refused_rows w s y =
    pick_elim Left (dec_le 100 w.sets) (λ _ _. refl)
    (λ _. pick_elim Left (sane? w) (λ _. pick_elim Left (valid? s) (λ _. pick_elim Left (room? s) (λ _ e. absurd (apart e)) (λ _ _. refl)) (λ _ _. refl)) (λ _ _. refl))
  where
    Left : Outcome → Type 0
    Left o = o.answer ≡ Err y → o.rows ≡ s.rows

    apart : Ok (grown w s.header s.areas) ≡ Err y → ⊥
    apart e = let z : ◌≡◌ {A = ℕ} 0 1 = cc in omega arith

pub behind_kept : (w : Week) (s : Given) → drop (rows_need s.header) (outcome w s).rows ≡ drop (rows_need s.header) s.rows
unfolding outcome
behind_kept w s =
    pick_elim Same (dec_le 100 w.sets) (λ _. refl)
    (λ _. pick_elim Same (sane? w) (λ _. pick_elim Same (valid? s) (λ _. pick_elim Same (room? s) (λ _. behind) (λ _. refl)) (λ _. refl)) (λ _. refl))
  where
    Same : Outcome → Type 0
    Same o = drop (rows_need s.header) o.rows ≡ drop (rows_need s.header) s.rows

    behind : drop (rows_need s.header) (front (set_rows s.header s.areas) s.rows) ≡ drop (rows_need s.header) s.rows
    behind = front_behind (set_rows s.header s.areas) s.rows (rows_need s.header) (set_rows_length s.header s.areas)

-- ---- no second answer, no second week and no second area fits the contract of `add`
pub add_once : (w : Week) (s : Given) {o o' : Outcome} → o ≡ outcome w s → o' ≡ outcome w s → o ≡ o'
add_once w s e e' = e ∙ sym e'
