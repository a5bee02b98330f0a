-- Maps from their exponents and values, and back.
use mathlib.Core.Path.{◌≡◌, refl, sym, ap, ◌∙◌}
use mathlib.Core.Bool.{true, false}
use mathlib.Core.Logic.{◌⊎◌, ⊎_elim}
use mathlib.Core.Option.{none, some}
use mathlib.Core.List.{List, [], ◌∷◌, ◌++◌, map}
use Prim.Native.Nat.{ℕ, zero, suc, ◌+◌, ◌*◌}
use native.Mathlib.Omega.{arith}
use native.Mathlib.Nat.{suc-mul, zero-mul, add-mul}
use lib.ListN.{length, replicate, take, drop, length-drop, take-append-drop}
use lib.Seq.{length-take-le}
use lib.IntN.{ℤ, pos, negsuc}
use Rattle.kit.specs.Answer.{All, pick}
use Rattle.kit.proofs.AnswerLaws.{pick_yes, pick_no, pick_elim}
use Rattle.kit.proofs.ListLaws.{all_take, all_drop, all_both}
use Rattle.mapset.specs.declared.Kind.{Kind}
use Rattle.mapset.specs.MapSet.{Block}
use Rattle.mapset.specs.Areas.{Present, present?, Nowhere}
use Rattle.layout.specs.Layout.{Exponent}
use Rattle.areas.specs.Lists.{flat, chop, zipw}
use Rattle.areas.specs.Flat.{absent_block, or_absent, Slots, reads, values_of, exponents_of, there}
use Rattle.areas.specs.Formed.{BlockRules, MapRules}
use Rattle.areas.specs.Value.{Value}
use Rattle.areas.specs.Stores.{has}
use Rattle.areas.specs.Nest.{a_block, cut, if_there, kept}
use Rattle.areas.specs.Valid.{Blank}
use Rattle.areas.proofs.ListLaws.{all_chop, zip_length, zip_left, zip_right, zip_alls, chop_length, chop_all, flat_chop, map_append}
use Rattle.areas.proofs.KindLaws.{Fits}
use Rattle.areas.proofs.Seams.{cells_cons, cells_same}
use Rattle.areas.proofs.Stored.{single}

pub nothing : {A : Type 0} (l : List A) → length l ≡ 0 → l ≡ []
nothing [] e = refl
nothing (x ∷ l) e = absurd (omega arith)

same_all : {A : Type 0} (v : A) (l : List A) → All (λ x. x ≡ v) l → l ≡ replicate (length l) v
same_all v [] a = refl
same_all v (x ∷ l) a = λ i. a.0 i ∷ same_all v l a.1 i

other_one : {P Q : Type 0} → P ⊎ Q → ¬ P → Q
other_one b n = ⊎_elim (λ p. absurd (n p)) (λ q. q) b

pub exponents_cons : (bs : List Block) (g : List (List Block)) → exponents_of (bs ∷ g) ≡ map (λ b. b.exponent) bs ++ exponents_of g
exponents_cons bs g = map_append (λ b. b.exponent) bs (flat g)

module _ (B C : ℕ) where
  -- ---- one map
  module _ (es vs : List ℤ) (le : length es ≡ B) where
    pair : length es ≡ length (chop B C vs)
    pair = le ∙ sym (chop_length C B vs)

    map_exponents : map (λ b. b.exponent) (zipw a_block es (chop B C vs)) ≡ es
    map_exponents = zip_left a_block (λ b. b.exponent) (λ x y. refl) es (chop B C vs) pair

    map_values : length vs ≡ B * C → flat (map (λ b. b.values) (zipw a_block es (chop B C vs))) ≡ vs
    map_values lv = ap flat (zip_right a_block (λ b. b.values) (λ x y. refl) es (chop B C vs) pair) ∙ flat_chop C B vs lv

    map_rules : length vs ≡ B * C → All Exponent es → All Value vs → MapRules B C (zipw a_block es (chop B C vs))
    map_rules lv p q =
        record {
          count = zip_length a_block es (chop B C vs) pair ∙ le;
          blocks = zip_alls a_block Exponent (λ x. (length x ≡ C) × All Value x) (BlockRules C) (λ x y h k. record { width = k.0; exponent = h; values = k.1 }) es (chop B C vs) p
              (all_both (λ x. length x ≡ C) (All Value) (chop B C vs) (chop_all C B vs lv) (all_chop Value B C vs q));
        }

  -- an absent map
  absent_exponents : (es : List ℤ) → length es ≡ B → All (λ x. x ≡ negsuc 0) es → map (λ b. b.exponent) (replicate B (absent_block C)) ≡ es
  absent_exponents es le a =
      sym (single (replicate B (absent_block C))) ∙ cells_same (λ b. b.exponent ∷ []) 1 (negsuc 0) (absent_block C) refl B
      ∙ (let z : B * 1 ≡ length es = omega arith in ap (λ j. replicate j (negsuc 0)) z) ∙ sym (same_all (negsuc 0) es a)

  absent_values : (vs : List ℤ) → length vs ≡ B * C → All (λ x. x ≡ pos 9999) vs → flat (map (λ b. b.values) (replicate B (absent_block C))) ≡ vs
  absent_values vs lv a =
      cells_same (λ b. b.values) C (pos 9999) (absent_block C) refl B ∙ ap (λ j. replicate j (pos 9999)) (sym lv) ∙ sym (same_all (pos 9999) vs a)

  -- ---- n maps of a kind
  module _ (k : Kind) where
    -- a slot
    module _ (m : ℕ) (es vs : List ℤ) (le : length es ≡ B) where
      slot_exponents : Present k m ⊎ All (λ x. x ≡ negsuc 0) es → map (λ b. b.exponent) (or_absent B C (if_there k m (zipw a_block es (chop B C vs)))) ≡ es
      slot_exponents b =
          pick_elim (λ o. map (λ b. b.exponent) (or_absent B C o) ≡ es) (present? k m) {x = some (zipw a_block es (chop B C vs))} {y = none}
          (λ _. map_exponents es vs le) (λ q. absent_exponents es le (other_one b q))

      slot_values : length vs ≡ B * C → Present k m ⊎ All (λ x. x ≡ pos 9999) vs → flat (map (λ b. b.values) (or_absent B C (if_there k m (zipw a_block es (chop B C vs))))) ≡ vs
      slot_values lv b =
          pick_elim (λ o. flat (map (λ b. b.values) (or_absent B C o)) ≡ vs) (present? k m) {x = some (zipw a_block es (chop B C vs))} {y = none}
          (λ _. map_values es vs le lv) (λ q. absent_values vs lv (other_one b q))

    -- all of them
    abbrev pub marked_maps : ℕ → (marks : List ℕ) (es vs : List ℤ) → Slots
    marked_maps n ms es vs = zipw (if_there k) ms (cut n B C es vs)

    pub exponents_back : (n : ℕ) (ms : List ℕ) (es vs : List ℤ) → length ms ≡ n → length es ≡ n * B → Blank k B (negsuc 0) ms es
        → exponents_of (reads B C (marked_maps n ms es vs)) ≡ es
    exponents_back zero [] es vs lm le b = sym (nothing es (le ∙ zero-mul B))
    exponents_back zero (m ∷ ms) es vs lm le b = absurd (omega arith)
    exponents_back (suc n) [] es vs lm le b = absurd (omega arith)
    exponents_back (suc n) (m ∷ ms) es vs lm le b =
        let s = suc-mul n B in
        let l : length (take B es) ≡ B = length-take-le B es (omega arith) in
        exponents_cons (or_absent B C (if_there k m (zipw a_block (take B es) (chop B C (take (B * C) vs))))) (reads B C (marked_maps n ms (drop B es) (drop (B * C) vs)))
        ∙ (λ i. slot_exponents m (take B es) (take (B * C) vs) l b.0 i
        ++ exponents_back n ms (drop B es) (drop (B * C) vs) (omega arith) (length-drop B es ∙ omega arith) b.1 i)
        ∙ take-append-drop B es

    pub values_back : (n : ℕ) (ms : List ℕ) (es vs : List ℤ) → length ms ≡ n → length es ≡ n * B → length vs ≡ n * B * C → Blank k (B * C) (pos 9999) ms vs
        → values_of (reads B C (marked_maps n ms es vs)) ≡ vs
    values_back zero [] es vs lm le lv b = sym (nothing vs (lv ∙ ap (λ j. j * C) (zero-mul B) ∙ zero-mul C))
    values_back zero (m ∷ ms) es vs lm le lv b = absurd (omega arith)
    values_back (suc n) [] es vs lm le lv b = absurd (omega arith)
    values_back (suc n) (m ∷ ms) es vs lm le lv b =
        let s = suc-mul n B in
        let c : suc n * B * C ≡ n * B * C + B * C = ap (λ j. j * C) s ∙ add-mul (n * B) B C in
        let l : length (take B es) ≡ B = length-take-le B es (omega arith) in
        let u : length (take (B * C) vs) ≡ B * C = length-take-le (B * C) vs (omega arith) in
        cells_cons (λ b. b.values) (or_absent B C (if_there k m (zipw a_block (take B es) (chop B C (take (B * C) vs))))) (reads B C (marked_maps n ms (drop B es) (drop (B * C) vs)))
        ∙ (λ i. slot_values m (take B es) (take (B * C) vs) l u b.0 i
        ++ values_back n ms (drop B es) (drop (B * C) vs) (omega arith) (length-drop B es ∙ omega arith) (length-drop (B * C) vs ∙ omega arith) b.1 i)
        ∙ take-append-drop (B * C) vs

    pub cut_fits : (N n : ℕ) (ms : List ℕ) (es vs : List ℤ) → length ms ≡ n → length es ≡ n * B → length vs ≡ n * B * C → All Exponent es → All Value vs
        → All (Fits N B C) (marked_maps n ms es vs)
    cut_fits N zero [] es vs lm le lv p q = tt
    cut_fits N zero (m ∷ ms) es vs lm le lv p q = absurd (omega arith)
    cut_fits N (suc n) [] es vs lm le lv p q = absurd (omega arith)
    cut_fits N (suc n) (m ∷ ms) es vs lm le lv p q =
        let s = suc-mul n B in
        let c : suc n * B * C ≡ n * B * C + B * C = ap (λ j. j * C) s ∙ add-mul (n * B) B C in (
          pick_elim (Fits N B C) (present? k m)
              (λ _. map_rules (take B es) (take (B * C) vs) (length-take-le B es (omega arith)) (length-take-le (B * C) vs (omega arith)) (all_take Exponent B es p) (all_take Value (B * C) vs q))
              (λ _. tt),
          cut_fits N n ms (drop B es) (drop (B * C) vs) (omega arith) (length-drop B es ∙ omega arith) (length-drop (B * C) vs ∙ omega arith) (all_drop Exponent B es p) (all_drop Value (B * C) vs q),
        )

  pub cut_length : (n : ℕ) (es vs : List ℤ) → length (cut n B C es vs) ≡ n
  cut_length zero es vs = refl
  cut_length (suc n) es vs = ap suc (cut_length n (drop B es) (drop (B * C) vs))

-- ---- which of them are there

module _ (k : Kind) where
  pub there_marked : (ms : List ℕ) (g : List (List Block)) → length ms ≡ length g → map there (zipw (if_there k) ms g) ≡ map (has k) ms
  there_marked [] g e = refl
  there_marked (m ∷ ms) [] e = absurd (omega arith)
  there_marked (m ∷ ms) (bs ∷ g) e = λ i. one (present? k m) i ∷ there_marked ms g (omega arith) i
    where
      one : (d : Dec (Present k m)) → there (pick d (some bs) none) ≡ pick d true false
      one d = pick_elim (λ t. there (pick d (some bs) none) ≡ t) d (λ p. ap there (pick_yes d (some bs) none p)) (λ n. ap there (pick_no d (some bs) none n))

  pub kept_nowhere : (i : ℕ) (ms : List ℕ) (g : List (List Block)) → Nowhere k ms → kept i (zipw (if_there k) ms g) ≡ []
  kept_nowhere i [] g a = refl
  kept_nowhere i (m ∷ ms) [] a = refl
  kept_nowhere i (m ∷ ms) (bs ∷ g) a = ap (λ o. kept i (o ∷ zipw (if_there k) ms g)) (pick_no (present? k m) (some bs) none a.0) ∙ kept_nowhere (suc i) ms g a.1

  pub kept_somewhere : (i : ℕ) (ms : List ℕ) (g : List (List Block)) → length ms ≡ length g → kept i (zipw (if_there k) ms g) ≡ [] → Nowhere k ms
  kept_somewhere i [] g e h = tt
  kept_somewhere i (m ∷ ms) [] e h = absurd (omega arith)
  kept_somewhere i (m ∷ ms) (bs ∷ g) e h =
      pick_elim (λ o. kept i (o ∷ zipw (if_there k) ms g) ≡ [] → ¬ Present k m → Nowhere k (m ∷ ms)) (present? k m)
      (λ p z n. absurd (n p)) (λ _ z n. (n, kept_somewhere (suc i) ms g (omega arith) z)) h
      (λ p. let z = ap (λ o. kept i (o ∷ zipw (if_there k) ms g)) (sym (pick_yes (present? k m) (some bs) none p)) ∙ h in let y = ap length z in omega arith)
