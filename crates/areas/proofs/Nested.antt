-- The six lists of a map set are as they should be, and `nest` gives its maps again.
use mathlib.Core.Path.{◌≡◌, refl, sym, ap, ◌∙◌}
use mathlib.Core.Bool.{Bool, true, false}
use mathlib.Core.Option.{none, some}
use mathlib.Core.List.{List, [], ◌∷◌, ◌++◌, map}
use Prim.Native.Nat.{ℕ, zero, suc, ◌*◌, ◌≤◌}
use native.Mathlib.Omega.{arith}
use native.Mathlib.Nat.{mul-one}
use lib.ListN.{length, replicate, take, drop, length-map}
use lib.Seq.{take_at, drop_at, take_all, drop-drop}
use lib.IntN.{ℤ, pos, negsuc}
use Rattle.kit.proofs.ListLaws.{all_append, all_turn, all_map}
use Rattle.kit.specs.Answer.{All}
use Rattle.kit.proofs.AnswerLaws.{pick_yes, pick_no}
use Rattle.mapset.specs.declared.Kind.{Kind}
use Rattle.mapset.specs.declared.Kind.TheVariants.{Tec, Rms, Height}
use Rattle.mapset.specs.MapSet.{Block, OtherMap, Maps}
use Rattle.mapset.specs.Areas.{present?}
use Rattle.layout.specs.Layout.{Exponent, Other}
use Rattle.areas.specs.Lists.{flat, zipw}
use Rattle.areas.specs.Flat.{found, absent_block, Slots, slots, reads, tec_blocks, values_of, exponents_of, wanted, mark, there, areas_of}
use Rattle.areas.specs.Formed.{BlockRules, MapRules, Rising, MapsRules}
use Rattle.areas.specs.Value.{Value}
use Rattle.areas.specs.Stores.{has}
use Rattle.areas.specs.Nest.{a_block, a_tec, cut, third, if_there, kept, nest}
use Rattle.areas.specs.Valid.{values_in, Blank}
use Rattle.areas.proofs.ListLaws.{all_flat, chop_flat, zip_back, tab_length, tab_all}
use Rattle.areas.proofs.KindLaws.{all_blocks, widths, slots_fit, kind_rules, kind_count, kind_exponents}
use Rattle.areas.proofs.KeptLaws.{kept_all}
use Rattle.areas.proofs.Needs.{marks_of, others, kind_nowhere, wanted_length, tec_rules, tec_count, tec_values, tec_exponents, all_exponents}
use Rattle.areas.proofs.Seams.{cells, cells_cons}
use Rattle.areas.proofs.Stored.{single}
use Rattle.areas.proofs.CutLaws.{exponents_cons, kept_nowhere}
use Rattle.areas.proofs.Unnested.{Sixfold}
use Rattle.areas.proofs.Absent.{agree, has_present, map_length, blank_cells, blank_tec, blank_nothing}

-- ---- values and exponents

module _ (B C : ℕ) where
  values_ok : (g : List (List Block)) → All (MapRules B C) g → All Value (values_of g)
  values_ok g p =
      all_flat Value (map (λ b. b.values) (flat g))
      (all_map (All Value) (λ b. b.values) (flat g) (all_turn (BlockRules C) (λ b. All Value b.values) (flat g) (λ x h. h.values) (all_blocks B C g p)))

  exponents_ok : (g : List (List Block)) → All (MapRules B C) g → All Exponent (exponents_of g)
  exponents_ok g p = all_map Exponent (λ b. b.exponent) (flat g) (all_turn (BlockRules C) (λ b. Exponent b.exponent) (flat g) (λ x h. h.exponent) (all_blocks B C g p))

wanted_ok : (xs : List OtherMap) (v : List ℤ) → All Value v → All Value (wanted xs v)
wanted_ok [] v p = tt
wanted_ok (x ∷ xs) v p = p

module _ (s : ℕ) (a b c : List ℤ) (x : length a ≡ s) (y : length b ≡ s) (z : length c ≡ s) where
  third_tec : third Tec s (a ++ (b ++ c)) ≡ a
  third_tec = take_at a (b ++ c) s x

  third_rms : third Rms s (a ++ (b ++ c)) ≡ b
  third_rms = ap (take s) (drop_at a (b ++ c) s x) ∙ take_at b c s y

  third_height : third Height s (a ++ (b ++ c)) ≡ c
  third_height = ap (take s) (sym (drop-drop s s (a ++ (b ++ c))) ∙ ap (drop s) (drop_at a (b ++ c) s x) ∙ drop_at b c s y) ∙ take_all s c (omega arith)

pub mark_low : (a b : Bool) → mark a b ≤ 3
mark_low false false = omega arith
mark_low false true = omega arith
mark_low true false = omega arith
mark_low true true = omega arith

module _ (n B C : ℕ) (k : Kind) (o : Other k) (m : Maps) (r : Rising n B C 0 (others k m)) where
  kind_no_exponents : Blank k B (negsuc 0) (marks_of n m) (exponents_of (reads B C (slots n (others k m))))
  kind_no_exponents =
      let ss : Slots = slots n (others k m) in
      let b : Blank k (B * 1) (negsuc 0) (marks_of n m) (cells (λ b. b.exponent ∷ []) (reads B C ss)) =
      blank_cells n B C 1 k (λ b. b.exponent ∷ []) (λ x h. refl) (negsuc 0) refl (marks_of n m) ss (agree n k o m) (slots_fit n B C 0 (others k m) r) in
      rw (mul-one B, single (flat (reads B C ss))) at b

  kind_no_values : Blank k (B * C) (pos 9999) (marks_of n m) (wanted (others k m) (values_of (reads B C (slots n (others k m)))))
  kind_no_values = go (others k m) (agree n k o m) r
    where
      go : (xs : List OtherMap) → map (has k) (marks_of n m) ≡ map there (slots n xs) → Rising n B C 0 xs → Blank k (B * C) (pos 9999) (marks_of n m) (wanted xs (values_of (reads B C (slots n xs))))
      go [] e r = blank_nothing k (B * C) (pos 9999) (marks_of n m)
      go (x ∷ xs) e r = blank_cells n B C C k (λ b. b.values) (λ x h. h) (pos 9999) refl (marks_of n m) (slots n (x ∷ xs)) e (slots_fit n B C 0 (x ∷ xs) r)

-- ---- and back

cut_back : (n B C : ℕ) (g : List (List Block)) → length g ≡ n → All (MapRules B C) g → cut n B C (exponents_of g) (values_of g) ≡ g
cut_back zero B C [] e p = refl
cut_back zero B C (bs ∷ g) e p = absurd (omega arith)
cut_back (suc n) B C [] e p = absurd (omega arith)
cut_back (suc n) B C (bs ∷ g) e p =
    let es : List ℤ = map (λ b. b.exponent) bs in
    let vs : List ℤ = flat (map (λ b. b.values) bs) in
    let le : length es ≡ B = length-map bs (λ b. b.exponent) ∙ p.0.count in
    let lv : length vs ≡ B * C = map_length n B C C Tec (λ b. b.values) (λ x h. h) (pos 9999) refl bs p.0 in
    rw (exponents_cons bs g, cells_cons (λ b. b.values) bs g, take_at es (exponents_of g) B le, drop_at es (exponents_of g) B le, take_at vs (values_of g) (B * C) lv, drop_at vs (values_of g) (B * C) lv)
    (λ i. (ap (zipw a_block es) (chop_flat C B (map (λ b. b.values) bs) (length-map bs (λ b. b.values) ∙ p.0.count) (all_map (λ l. length l ≡ C) (λ b. b.values) bs (widths B C bs p.0.blocks)))
    ∙ zip_back a_block (λ b. b.exponent) (λ b. b.values) (λ x. refl) bs) i ∷ cut_back n B C g (omega arith) p.1 i)

there_back : (B C : ℕ) (k : Kind) (ms : List ℕ) (ss : Slots) → map (has k) ms ≡ map there ss → zipw (if_there k) ms (reads B C ss) ≡ ss
there_back B C k [] [] e = refl
there_back B C k [] (o ∷ ss) e = let z = ap length e in absurd (omega arith)
there_back B C k (m ∷ ms) [] e = refl
there_back B C k (m ∷ ms) (none ∷ ss) e =
    let b : has k m ≡ false = cc in
    let t : map (has k) ms ≡ map there ss = cc in
    λ i. pick_no (present? k m) (some (replicate B (absent_block C))) none (λ p. let q = pick_yes (present? k m) true false p in let z : ◌≡◌ {A = ℕ} 0 1 = cc in omega arith) i ∷ there_back B C k ms ss t i
there_back B C k (m ∷ ms) (some bs ∷ ss) e =
    let b : has k m ≡ true = cc in
    let t : map (has k) ms ≡ map there ss = cc in
    λ i. pick_yes (present? k m) (some bs) none (has_present k m b) i ∷ there_back B C k ms ss t i

module _ (n B C : ℕ) (k : Kind) (o : Other k) (m : Maps) (r : Rising n B C 0 (others k m)) where
  kind_back : (es : List ℤ) → es ≡ exponents_of (reads B C (slots n (others k m)))
      → kept 1 (zipw (if_there k) (marks_of n m) (cut n B C es (wanted (others k m) (values_of (reads B C (slots n (others k m))))))) ≡ others k m
  kind_back es q = go (others k m) refl r q
    where
      go : (xs : List OtherMap) → others k m ≡ xs → Rising n B C 0 xs → es ≡ exponents_of (reads B C (slots n xs))
          → kept 1 (zipw (if_there k) (marks_of n m) (cut n B C es (wanted xs (values_of (reads B C (slots n xs)))))) ≡ xs
      go [] e r q = kept_nowhere k 1 (marks_of n m) (cut n B C es []) (kind_nowhere n B C k o m e)
      go (x ∷ xs) e r q =
          let ss : Slots = slots n (x ∷ xs) in
          ap (λ es. kept 1 (zipw (if_there k) (marks_of n m) (cut n B C es (values_of (reads B C ss))))) q
          ∙ ap (λ g. kept 1 (zipw (if_there k) (marks_of n m) g)) (cut_back n B C (reads B C ss) (kind_count n B C 0 (x ∷ xs) r) (kind_rules n B C 0 (x ∷ xs) r))
          ∙ ap (kept 1) (there_back B C k (marks_of n m) ss (agree n k o m ∙ ap (λ l. map there (slots n l)) e)) ∙ kept_all n B C (x ∷ xs) r

-- ---- all three kinds

module _ (n B C : ℕ) (m : Maps) (f : MapsRules n B C m) where
  abbrev tecs : List ℤ
  tecs = exponents_of (tec_blocks m)

  abbrev rmss : List ℤ
  rmss = exponents_of (reads B C (slots n m.rms))

  abbrev heights : List ℤ
  heights = exponents_of (reads B C (slots n m.height))

  tecs_length : length tecs ≡ n * B
  tecs_length = tec_exponents n B C m f

  rmss_length : length rmss ≡ n * B
  rmss_length = kind_exponents n B C 0 m.rms f.rms

  heights_length : length heights ≡ n * B
  heights_length = kind_exponents n B C 0 m.height f.height

  pub tec_third : third Tec (n * B) (tecs ++ (rmss ++ heights)) ≡ tecs
  tec_third = third_tec (n * B) tecs rmss heights tecs_length rmss_length heights_length

  pub rms_third : third Rms (n * B) (tecs ++ (rmss ++ heights)) ≡ rmss
  rms_third = third_rms (n * B) tecs rmss heights tecs_length rmss_length heights_length

  pub height_third : third Height (n * B) (tecs ++ (rmss ++ heights)) ≡ heights
  height_third = third_height (n * B) tecs rmss heights tecs_length rmss_length heights_length

  pub areas_sixfold : Sixfold n B C (areas_of n B C m)
  unfolding areas_of
  areas_sixfold =
      record {
        tec = tec_values n B C m f;
        rms = wanted_length n B C Rms tt m f.rms;
        height = wanted_length n B C Height tt m f.height;
        exponents = all_exponents n B C m f;
        epochs = length-map m.tec (λ t. t.epoch) ∙ f.count;
        marks = tab_length 1 n _;
        low = tab_all (λ m. m ≤ 3) 1 n _ (λ j. mark_low (there (found m.rms j)) (there (found m.height j)));
        in_values = vals;
        in_exponents = all_append Exponent tecs (rmss ++ heights) (exponents_ok B C (tec_blocks m) (tec_rules n B C m f))
            (all_append Exponent rmss heights (exponents_ok B C (reads B C (slots n m.rms)) (kind_rules n B C 0 m.rms f.rms)) (exponents_ok B C (reads B C (slots n m.height)) (kind_rules n B C 0 m.height f.height)));
        no_values = no_vals;
        no_exponents = no_exps;
      }
    where
      vals : (k : Kind) → All Value (values_in k (areas_of n B C m))
      vals Tec = values_ok B C (tec_blocks m) (tec_rules n B C m f)
      vals Rms = wanted_ok m.rms _ (values_ok B C (reads B C (slots n m.rms)) (kind_rules n B C 0 m.rms f.rms))
      vals Height = wanted_ok m.height _ (values_ok B C (reads B C (slots n m.height)) (kind_rules n B C 0 m.height f.height))

      no_vals : (k : Kind) → Blank k (B * C) (pos 9999) (marks_of n m) (values_in k (areas_of n B C m))
      no_vals Tec = blank_tec (B * C) (pos 9999) (marks_of n m) (values_of (tec_blocks m))
      no_vals Rms = kind_no_values n B C Rms tt m f.rms
      no_vals Height = kind_no_values n B C Height tt m f.height

      no_exps : (k : Kind) → Blank k B (negsuc 0) (marks_of n m) (third k (n * B) (tecs ++ (rmss ++ heights)))
      no_exps Tec = blank_tec B (negsuc 0) (marks_of n m) _
      no_exps Rms = rw rms_third (kind_no_exponents n B C Rms tt m f.rms)
      no_exps Height = rw height_third (kind_no_exponents n B C Height tt m f.height)

  pub nest_areas : nest n B C (areas_of n B C m) ≡ m
  unfolding nest areas_of
  nest_areas =
      λ i. record {
        tec = (
            ap (λ e. zipw a_tec (map (λ t. t.epoch) m.tec) (cut n B C e (values_of (tec_blocks m)))) tec_third
            ∙ ap (zipw a_tec (map (λ t. t.epoch) m.tec)) (cut_back n B C (tec_blocks m) (tec_count n B C m f) (tec_rules n B C m f))
            ∙ zip_back a_tec (λ t. t.epoch) (λ t. t.blocks) (λ x. refl) m.tec) i;
        rms = kind_back n B C Rms tt m f.rms (third Rms (n * B) (tecs ++ (rmss ++ heights))) rms_third i;
        height = kind_back n B C Height tt m f.height (third Height (n * B) (tecs ++ (rmss ++ heights))) height_third i;
      }
