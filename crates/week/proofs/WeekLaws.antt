-- Up to a hundred valid sets: the report is the week over the nodes, whatever the order, with refused ones anywhere in between.
use mathlib.Core.Path.{◌≡◌, refl, sym, ap, ◌∙◌}
use mathlib.Core.List.{List, [], ◌∷◌, ◌++◌, map, Permᴰ}
use Prim.Native.Nat.{ℕ, ◌+◌, ◌*◌, ◌≤◌}
use native.Mathlib.Nat.{add_assoc, add_comm, zero-add}
use native.Mathlib.Decide.{dec_le}
use native.Mathlib.Omega.{arith}
use lib.IntN.{nat_abs}
use lib.ListN.{length, length-append}
use Rattle.kit.specs.Answer.{All, pick}
use Rattle.kit.proofs.AnswerLaws.{pick_yes, pick_no, pick_elim}
use Rattle.kit.proofs.ListLaws.{all_append}
use Rattle.ask_nodes.specs.Nodes.{Small}
use Rattle.week_tally.specs.Gathered.{gathered, Combines}
use Rattle.week_tally.proofs.GatheredLaws.{gathered_permuted}
use Rattle.week_tally.specs.Figures.{figures, joined, nothing, Bounded}
use Rattle.week_tally.proofs.FigureLaws.{figures_none, figures_append, joined_none, joined_comm, joined_assoc, bounded_figures, nodes_figures, Spans, range_spans}
use Rattle.week_set.specs.SetFigures.{kind_nodes}
use Rattle.week_set.proofs.SetLaws.{kind_small, kind_length}
use Rattle.week.specs.declared.Week.{Week}
use Rattle.week.specs.Week.{Given, Accepted, accepted?, set_nodes, accepted, week_nodes, week_of, grown, added, no_sets, report, tecu, km}

-- ---- weeks combined
unfoldable pub combined : Week → Week → Week
combined w v =
    record {
      sets = w.sets + v.sets;
      tec = tecu (joined w.tec.0 v.tec.0);
      rms = tecu (joined w.rms.0 v.rms.0);
      height = km (joined w.height.0 v.height.0);
    }

pub same : {w v : Week} → w.sets ≡ v.sets → w.tec.0 ≡ v.tec.0 → w.rms.0 ≡ v.rms.0 → w.height.0 ≡ v.height.0 → w ≡ v
same a b c d = λ i. record { sets = a i; tec = tecu (b i); rms = tecu (c i); height = km (d i) }

pub combines : Combines combined no_sets
unfolding combined
combines =
    record {
      neutral = λ w. same (zero-add w.sets) (joined_none w.tec.0) (joined_none w.rms.0) (joined_none w.height.0);
      comm = λ w v. same (add_comm w.sets v.sets) (joined_comm w.tec.0 v.tec.0) (joined_comm w.rms.0 v.rms.0) (joined_comm w.height.0 v.height.0);
      assoc = λ w v u. same (add_assoc w.sets v.sets u.sets) (joined_assoc w.tec.0 v.tec.0 u.tec.0)
          (joined_assoc w.rms.0 v.rms.0 u.rms.0) (joined_assoc w.height.0 v.height.0 u.height.0);
    }

-- ---- what one set brings
abbrev pub brings : Given → Week
brings s =
    record { sets = pick (accepted? s) 1 0; tec = tecu (figures (set_nodes 0 s)); rms = tecu (figures (set_nodes 1 s)); height = km (figures (set_nodes 2 s)) }

week_cons : (s : Given) (ss : List Given) → week_of (s ∷ ss) ≡ combined (brings s) (week_of ss)
unfolding week_of accepted combined
week_cons s ss = same refl (more 0) (more 1) (more 2)
  where
    more : (k : ℕ) → figures (set_nodes k s ++ week_nodes k ss) ≡ joined (figures (set_nodes k s)) (figures (week_nodes k ss))
    more k = figures_append (set_nodes k s) (week_nodes k ss)

week_none : week_of [] ≡ no_sets
unfolding week_of accepted
week_none = same refl figures_none figures_none figures_none

week_gathered : (ss : List Given) → week_of ss ≡ gathered combined no_sets (map brings ss)
unfolding gathered
week_gathered [] = week_none
week_gathered (s ∷ ss) = week_cons s ss ∙ ap (combined (brings s)) (week_gathered ss)

-- ---- the order does not matter
permuted_map : {A B : Type 0} (f : A → B) {l m : List A} → Permᴰ l m → Permᴰ (map f l) (map f m)
permuted_map f Permᴰ.nil = Permᴰ.nil
permuted_map f (Permᴰ.cons p d) = Permᴰ.cons (ap f p) (permuted_map f d)
permuted_map f (Permᴰ.swap p q) = Permᴰ.swap (ap f p) (ap f q)
permuted_map f (Permᴰ.trans d d') = Permᴰ.trans (permuted_map f d) (permuted_map f d')

week_permuted : {ss ts : List Given} → Permᴰ ss ts → week_of ss ≡ week_of ts
week_permuted {ss} {ts} d = week_gathered ss ∙ gathered_permuted combines (permuted_map brings d) ∙ sym (week_gathered ts)

accepted_permuted : {ss ts : List Given} → Permᴰ ss ts → accepted ss ≡ accepted ts
unfolding week_of
accepted_permuted d = ap (λ (w : Week). w.sets) (week_permuted d)

-- ---- one set after the other comes to the same
combined_none : (w : Week) → combined w no_sets ≡ w
combined_none w = combines.comm w no_sets ∙ combines.neutral w

brings_refused : (s : Given) → ¬ Accepted s → brings s ≡ no_sets
unfolding set_nodes
brings_refused s n = same (pick_no (accepted? s) 1 0 n) (none 0) (none 1) (none 2)
  where
    none : (k : ℕ) → figures (pick (accepted? s) (kind_nodes k s.header s.areas) []) ≡ nothing
    none k = ap figures (pick_no (accepted? s) (kind_nodes k s.header s.areas) [] n) ∙ figures_none

brings_accepted : (w : Week) (s : Given) → Accepted s → grown w s.header s.areas ≡ combined w (brings s)
unfolding grown combined set_nodes
brings_accepted w s v = same (ap (w.sets +◌) (sym (pick_yes (accepted? s) 1 0 v))) (all 0 w.tec.0) (all 1 w.rms.0) (all 2 w.height.0)
  where
    all : (k : ℕ) (t : _) → joined t (figures (kind_nodes k s.header s.areas)) ≡ joined t (figures (pick (accepted? s) (kind_nodes k s.header s.areas) []))
    all k t = ap (λ ns. joined t (figures ns)) (sym (pick_yes (accepted? s) (kind_nodes k s.header s.areas) [] v))

added_is : (w : Week) (s : Given) → w.sets + pick (accepted? s) 1 0 ≤ 100 → added w s ≡ combined w (brings s)
unfolding added
added_is w s h = by (accepted? s)
  where
    by : Dec (Accepted s) → added w s ≡ combined w (brings s)
    by (yes v) =
        let e : pick {X = ℕ} (accepted? s) 1 0 ≡ 1 = pick_yes (accepted? s) 1 0 v in
        pick_no (dec_le 100 w.sets) w (pick (accepted? s) (grown w s.header s.areas) w) (λ k. omega (arith, e)) ∙ pick_yes (accepted? s) (grown w s.header s.areas) w v ∙ brings_accepted w s v
    by (no n) =
        pick_elim (λ (u : Week). u ≡ w) (dec_le 100 w.sets) (λ _. refl) (λ _. pick_no (accepted? s) (grown w s.header s.areas) w n)
        ∙ sym (combined_none w) ∙ ap (combined w) (sym (brings_refused s n))

report_from : (ss : List Given) (w : Week) → w.sets + accepted ss ≤ 100 → report w ss ≡ combined w (week_of ss)
unfolding report accepted combined
report_from [] w h = sym (combined_none w) ∙ ap (combined w) (sym week_none)
report_from (s ∷ ss) w h =
    let e = added_is w s (omega arith) in
    let f : (added w s).sets ≡ w.sets + pick (accepted? s) 1 0 = ap (λ (u : Week). u.sets) e in
    report_from ss (added w s) (omega arith)
    ∙ ap (λ (u : Week). combined u (week_of ss)) e ∙ combines.assoc w (brings s) (week_of ss) ∙ ap (combined w) (sym (week_cons s ss))

pub report_week : (ss : List Given) → accepted ss ≤ 100 → report no_sets ss ≡ week_of ss
report_week ss h = report_from ss no_sets (omega arith) ∙ combines.neutral (week_of ss)

pub report_permuted : {ss ts : List Given} → Permᴰ ss ts → accepted ss ≤ 100 → report no_sets ss ≡ report no_sets ts
report_permuted {ss} {ts} d h = report_week ss h ∙ week_permuted d ∙ sym (report_week ts (omega (arith, accepted_permuted d)))

-- ---- how large the numbers of a week are
small_set : (k : ℕ) (s : Given) → All Small (set_nodes k s)
unfolding set_nodes
small_set k s = pick_elim (All Small) (accepted? s) (λ _. kind_small k s.header s.areas) (λ _. tt)

pub week_small : (k : ℕ) (ss : List Given) → All Small (week_nodes k ss)
week_small k [] = tt
week_small k (s ∷ ss) = all_append Small (set_nodes k s) (week_nodes k ss) (small_set k s) (week_small k ss)

pub week_bounded : (k : ℕ) (ss : List Given) → Bounded (figures (week_nodes k ss))
week_bounded k ss = bounded_figures (week_nodes k ss) (week_small k ss)

-- a valid set has at most 2,000,000 nodes of a kind
pub set_size : (k : ℕ) (s : Given) → Accepted s → length (kind_nodes k s.header s.areas) ≤ 2_000_000
set_size k s v =
    let l = v.0.sound.header.limits.3 in
    omega (arith, kind_length k s.header s.areas, l)

set_sizes : (k : ℕ) (s : Given) → length (set_nodes k s) ≤ pick (accepted? s) 1 0 * 2_000_000
unfolding set_nodes
set_sizes k s = by (accepted? s)
  where
    by : Dec (Accepted s) → length (pick (accepted? s) (kind_nodes k s.header s.areas) []) ≤ pick (accepted? s) 1 0 * 2_000_000
    by (yes v) =
        let e : pick {X = ℕ} (accepted? s) 1 0 ≡ 1 = pick_yes (accepted? s) 1 0 v in
        let f = pick_yes (accepted? s) (kind_nodes k s.header s.areas) [] v in
        rw (e, f) (omega (arith, set_size k s v))
    by (no n) =
        let f = pick_no (accepted? s) (kind_nodes k s.header s.areas) [] n in
        rw f (omega arith)

pub week_size : (k : ℕ) (ss : List Given) → length (week_nodes k ss) ≤ accepted ss * 2_000_000
unfolding accepted
week_size k [] = omega arith
week_size k (s ∷ ss) = omega (arith, length-append (set_nodes k s) (week_nodes k ss), set_sizes k s, week_size k ss)

-- sums of up to a hundred sets fit an i64
pub week_sum : (k : ℕ) (ss : List Given) → accepted ss ≤ 100 → nat_abs (figures (week_nodes k ss)).sum ≤ 100 * (2_000_000 * 99_999_000)
week_sum k ss h =
    let b = week_bounded k ss in
    omega (arith, nodes_figures (week_nodes k ss), week_size k ss)

-- ---- smallest and largest of a week are values of its nodes, and bound all of them
pub week_spans : (k : ℕ) (ss : List Given) → Spans (week_nodes k ss) (figures (week_nodes k ss)).range
unfolding figures
week_spans k ss = range_spans (week_nodes k ss)
