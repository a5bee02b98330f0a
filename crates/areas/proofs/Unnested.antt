-- Six lists that are as they should be: `nest` gives maps that obey their rules, and `areas` gives the lists again.
use mathlib.Core.Path.{◌≡◌, refl, sym, ap, ◌∙◌}
use mathlib.Core.Bool.{true, false}
use mathlib.Core.List.{List, [], ◌∷◌, ◌++◌, map}
use Prim.Native.Nat.{ℕ, zero, suc, ◌+◌, ◌*◌, ◌≤◌}
use native.Mathlib.Omega.{arith}
use lib.ListN.{length, take, drop, length-drop, take-append-drop}
use lib.Seq.{take_all, length-take-le, drop-drop}
use lib.IntN.{ℤ, pos, negsuc}
use Rattle.kit.specs.Answer.{All, pick}
use Rattle.kit.proofs.AnswerLaws.{pick_yes, pick_no}
use Rattle.kit.proofs.ListLaws.{all_take, all_drop}
use Rattle.mapset.specs.declared.Kind.{Kind}
use Rattle.mapset.specs.declared.Kind.TheVariants.{Tec, Rms, Height}
use Rattle.mapset.specs.MapSet.{Block, OtherMap}
use Rattle.mapset.specs.Areas.{Areas, present?, Nowhere, nowhere?, first_of}
use Rattle.layout.specs.Layout.{Exponent}
use Rattle.areas.specs.Lists.{tab, zipw}
use Rattle.areas.specs.Flat.{found, Slots, slots, reads, values_of, exponents_of, wanted, mark, there, areas_of}
use Rattle.areas.specs.Formed.{MapRules, Rising, MapsRules}
use Rattle.areas.specs.Value.{Value}
use Rattle.areas.specs.Stores.{has}
use Rattle.areas.specs.Nest.{a_tec, cut, third, if_there, kept, nest}
use Rattle.areas.specs.Valid.{values_in, Blank}
use Rattle.areas.proofs.ListLaws.{zip_length, zip_left, zip_right, zip_all}
use Rattle.areas.proofs.KindLaws.{reads_rules}
use Rattle.areas.proofs.KeptLaws.{kept_rising, slots_kept}
use Rattle.areas.proofs.Marked.{has_mark, marks_zip}
use Rattle.areas.proofs.CutLaws.{nothing, marked_maps, exponents_back, values_back, cut_fits, cut_length, there_marked, kept_nowhere, kept_somewhere}

-- ---- what has to hold of the lists

pub record Sixfold (n B C : ℕ) (f : Areas) : Type 0 where
  pub tec : length f.tec ≡ n * B * C
  pub rms : length f.rms ≡ pick (nowhere? Rms f.marks) 0 (n * B * C)
  pub height : length f.height ≡ pick (nowhere? Height f.marks) 0 (n * B * C)
  pub exponents : length f.exponents ≡ 3 * (n * B)
  pub epochs : length f.epochs ≡ n
  pub marks : length f.marks ≡ n
  pub low : All (λ m. m ≤ 3) f.marks
  pub in_values : (k : Kind) → All Value (values_in k f)
  pub in_exponents : All Exponent f.exponents
  pub no_values : (k : Kind) → Blank k (B * C) (pos 9999) f.marks (values_in k f)
  pub no_exponents : (k : Kind) → Blank k B (negsuc 0) f.marks (third k (n * B) f.exponents)

-- ---- the three thirds

module _ (s : ℕ) (es : List ℤ) (e : length es ≡ 3 * s) where
  pub third_length : (k : Kind) → length (third k s es) ≡ s
  third_length Tec = length-take-le s (drop 0 es) (omega (arith, length-drop 0 es))
  third_length Rms = length-take-le s (drop s es) (omega (arith, length-drop s es))
  third_length Height = length-take-le s (drop (s + s) es) (omega (arith, length-drop (s + s) es))

  pub thirds_back : third Tec s es ++ (third Rms s es ++ third Height s es) ≡ es
  thirds_back =
      ap (λ r. take s es ++ (take s (drop s es) ++ r)) (take_all s (drop (s + s) es) (omega (arith, length-drop (s + s) es)) ∙ sym (drop-drop s s es))
      ∙ ap (λ r. take s es ++ r) (take-append-drop s (drop s es)) ∙ take-append-drop s es

third_all : (P : ℤ → Type 0) (k : Kind) (s : ℕ) (es : List ℤ) → All P es → All P (third k s es)
third_all P k s es p = all_take P s (drop (first_of k s) es) (all_drop P (first_of k s) es p)

-- ---- marks

mark_back : (m : ℕ) → m ≤ 3 → mark (has Rms m) (has Height m) ≡ m
mark_back zero h = (λ i. mark (has_mark Rms false false i) (has_mark Height false false i))
mark_back (suc zero) h = (λ i. mark (has_mark Rms true false i) (has_mark Height true false i))
mark_back (suc (suc zero)) h = (λ i. mark (has_mark Rms false true i) (has_mark Height false true i))
mark_back (suc (suc (suc zero))) h = (λ i. mark (has_mark Rms true true i) (has_mark Height true true i))
mark_back (suc (suc (suc (suc m)))) h = absurd (omega arith)

marks_back : (ms : List ℕ) → All (λ m. m ≤ 3) ms → zipw mark (map (has Rms) ms) (map (has Height) ms) ≡ ms
marks_back [] p = refl
marks_back (m ∷ ms) p = λ i. mark_back m p.0 i ∷ marks_back ms p.1 i

-- ---- RMS or height maps

wanted_all : (xs : List OtherMap) (v : List ℤ) → ¬ (xs ≡ []) → wanted xs v ≡ v
wanted_all [] v n = absurd (n refl)
wanted_all (x ∷ xs) v n = refl

module _ (n B C : ℕ) (k : Kind) (ms : List ℕ) (es vs : List ℤ) (lm : length ms ≡ n) (le : length es ≡ n * B) (lv : length vs ≡ pick (nowhere? k ms) 0 (n * B * C))
    (be : Blank k B (negsuc 0) ms es) (bv : Blank k (B * C) (pos 9999) ms vs) where
  abbrev ss : Slots
  ss = marked_maps B C k n ms es vs

  pair : length ms ≡ length (cut n B C es vs)
  pair = lm ∙ sym (cut_length B C n es vs)

  count : length ss ≡ n
  count = zip_length (if_there k) ms (cut n B C es vs) pair ∙ lm

  slots_back : slots n (kept 1 ss) ≡ ss
  slots_back = ap (λ j. tab 1 j (found (kept 1 ss))) (sym count) ∙ slots_kept 1 ss

  bits_back : map there (slots n (kept 1 ss)) ≡ map (has k) ms
  bits_back = ap (map there) slots_back ∙ there_marked k ms (cut n B C es vs) pair

  kind_exponents_back : exponents_of (reads B C (slots n (kept 1 ss))) ≡ es
  kind_exponents_back = ap (λ s. exponents_of (reads B C s)) slots_back ∙ exponents_back B C k n ms es vs lm le be

  kind_values_back : wanted (kept 1 ss) (values_of (reads B C (slots n (kept 1 ss)))) ≡ vs
  kind_values_back = go (nowhere? k ms)
    where
      go : Dec (Nowhere k ms) → wanted (kept 1 ss) (values_of (reads B C (slots n (kept 1 ss)))) ≡ vs
      go (yes a) =
          ap (λ xs. wanted xs (values_of (reads B C (slots n (kept 1 ss))))) (kept_nowhere k 1 ms (cut n B C es vs) a)
          ∙ sym (nothing vs (lv ∙ pick_yes (nowhere? k ms) 0 (n * B * C) a))
      go (no a) =
          wanted_all (kept 1 ss) (values_of (reads B C (slots n (kept 1 ss)))) (λ e. a (kept_somewhere k 1 ms (cut n B C es vs) pair e))
          ∙ ap (λ s. values_of (reads B C s)) slots_back ∙ values_back B C k n ms es vs lm le (lv ∙ pick_no (nowhere? k ms) 0 (n * B * C) a) bv

  kind_rising : All Exponent es → All Value vs → Rising n B C 0 (kept 1 ss)
  kind_rising p q = go (nowhere? k ms)
    where
      go : Dec (Nowhere k ms) → Rising n B C 0 (kept 1 ss)
      go (yes a) = rw (kept_nowhere k 1 ms (cut n B C es vs) a) tt
      go (no a) = kept_rising n B C 0 ss (omega (arith, count)) (cut_fits B C k n n ms es vs lm le (lv ∙ pick_no (nowhere? k ms) 0 (n * B * C) a) p q)

-- ---- TEC maps: every one is there

reads_tec : (B C : ℕ) (ms : List ℕ) (g : List (List Block)) → length ms ≡ length g → reads B C (zipw (if_there Tec) ms g) ≡ g
unfolding pick present?
reads_tec B C [] [] e = refl
reads_tec B C [] (bs ∷ g) e = absurd (omega arith)
reads_tec B C (m ∷ ms) [] e = absurd (omega arith)
reads_tec B C (m ∷ ms) (bs ∷ g) e = ap (λ r. bs ∷ r) (reads_tec B C ms g (omega arith))

module _ (n B C : ℕ) (f : Areas) (v : Sixfold n B C f) where
  abbrev es : Kind → List ℤ
  es k = third k (n * B) f.exponents

  abbrev tecs : List (List Block)
  tecs = cut n B C (es Tec) f.tec

  le : (k : Kind) → length (es k) ≡ n * B
  le k = third_length (n * B) f.exponents v.exponents k

  tec_reads : reads B C (marked_maps B C Tec n f.marks (es Tec) f.tec) ≡ tecs
  tec_reads = reads_tec B C f.marks tecs (v.marks ∙ sym (cut_length B C n (es Tec) f.tec))

  tec_pair : length f.epochs ≡ length tecs
  tec_pair = v.epochs ∙ sym (cut_length B C n (es Tec) f.tec)

  tec_back : map (λ t. t.blocks) (zipw a_tec f.epochs tecs) ≡ tecs
  tec_back = zip_right a_tec (λ t. t.blocks) (λ x y. refl) f.epochs tecs tec_pair

  pub epochs_back : map (λ t. t.epoch) (zipw a_tec f.epochs tecs) ≡ f.epochs
  epochs_back = zip_left a_tec (λ t. t.epoch) (λ x y. refl) f.epochs tecs tec_pair

  tec_rules : All (MapRules B C) tecs
  tec_rules =
      rw tec_reads at (reads_rules n B C (marked_maps B C Tec n f.marks (es Tec) f.tec)
      (cut_fits B C Tec n n f.marks (es Tec) f.tec v.marks (le Tec) v.tec (third_all Exponent Tec (n * B) f.exponents v.in_exponents) (v.in_values Tec)))

  pub nest_rules : MapsRules n B C (nest n B C f)
  unfolding nest
  nest_rules =
      record {
        count = zip_length a_tec f.epochs tecs tec_pair ∙ v.epochs;
        tec = zip_all a_tec (MapRules B C) (λ t. MapRules B C t.blocks) (λ x y h. h) f.epochs tecs tec_rules;
        rms = kind_rising n B C Rms f.marks (es Rms) f.rms v.marks (le Rms) v.rms (v.no_exponents Rms) (v.no_values Rms) (third_all Exponent Rms (n * B) f.exponents v.in_exponents) (v.in_values Rms);
        height = kind_rising n B C Height f.marks (es Height) f.height v.marks (le Height) v.height (v.no_exponents Height) (v.no_values Height) (third_all Exponent Height (n * B) f.exponents v.in_exponents) (v.in_values Height);
      }

  pub areas_nest : areas_of n B C (nest n B C f) ≡ f
  unfolding nest areas_of
  areas_nest =
      λ i. record {
        tec = (ap values_of (tec_back ∙ sym tec_reads) ∙ values_back B C Tec n f.marks (es Tec) f.tec v.marks (le Tec) v.tec (v.no_values Tec)) i;
        rms = kind_values_back n B C Rms f.marks (es Rms) f.rms v.marks (le Rms) v.rms (v.no_exponents Rms) (v.no_values Rms) i;
        height = kind_values_back n B C Height f.marks (es Height) f.height v.marks (le Height) v.height (v.no_exponents Height) (v.no_values Height) i;
        exponents = all_back i;
        epochs = epochs_back i;
        marks = (sym (marks_zip 1 n (found (nest n B C f).rms) (found (nest n B C f).height)) ∙ (λ j. zipw mark (bits_back n B C Rms f.marks (es Rms) f.rms v.marks (le Rms) v.rms (v.no_exponents Rms) (v.no_values Rms) j)
            (bits_back n B C Height f.marks (es Height) f.height v.marks (le Height) v.height (v.no_exponents Height) (v.no_values Height) j)) ∙ marks_back f.marks v.low) i;
      }
    where
      all_back : exponents_of (map (λ t. t.blocks) (zipw a_tec f.epochs tecs)) ++ (exponents_of (reads B C (slots n (kept 1 (marked_maps B C Rms n f.marks (es Rms) f.rms))))
          ++ exponents_of (reads B C (slots n (kept 1 (marked_maps B C Height n f.marks (es Height) f.height))))) ≡ f.exponents
      all_back =
          (λ i. (ap exponents_of (tec_back ∙ sym tec_reads) ∙ exponents_back B C Tec n f.marks (es Tec) f.tec v.marks (le Tec) (v.no_exponents Tec)) i
          ++ (kind_exponents_back n B C Rms f.marks (es Rms) f.rms v.marks (le Rms) v.rms (v.no_exponents Rms) (v.no_values Rms) i
          ++ kind_exponents_back n B C Height f.marks (es Height) f.height v.marks (le Height) v.height (v.no_exponents Height) (v.no_values Height) i))
          ∙ thirds_back (n * B) f.exponents v.exponents
