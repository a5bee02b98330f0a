-- The second scan leaves exactly the areas of the map set, and behind them what was there.
use mathlib.Core.Path.{◌≡◌, refl, sym, ap, ◌∙◌}
use mathlib.Core.Bool.{Bool, false}
use mathlib.Core.List.{List, [], ◌∷◌, ◌++◌, map, append_assoc, append-nil}
use Prim.Native.Nat.{ℕ, ◌+◌, ◌*◌, ◌≤◌}
use native.Mathlib.Omega.{arith}
use native.Mathlib.Nat.{zero-mul, mul-one}
use lib.ListN.{length, replicate, take, drop, length-map, length-replicate, take-append-drop, replicate-append-replicate}
use lib.Seq.{length-take-le}
use lib.IntN.{ℤ, pos, negsuc}
use Rattle.kit.specs.Answer.{All}
use Rattle.mapset.specs.declared.Kind.{Kind}
use Rattle.mapset.specs.declared.Kind.TheVariants.{Tec, Rms, Height}
use Rattle.mapset.specs.MapSet.{Block, OtherMap, Maps}
use Rattle.mapset.specs.Areas.{Areas}
use Rattle.areas.specs.Lists.{flat, zipw}
use Rattle.areas.specs.Flat.{found, absent_block, slots, reads, tec_blocks, values_of, exponents_of, wanted, mark, there, areas_of}
use Rattle.areas.specs.Formed.{Rising, MapsRules}
use Rattle.areas.specs.Nest.{kept}
use Rattle.areas.specs.Events.{Event}
use Rattle.kit.specs.Lists.{front}
use Rattle.areas.specs.Stores.{put, put_values, put_exponent, put_epoch, put_mark, scan, Inside, fill, cleared, scanned}
use Rattle.areas.specs.Fronts.{fronts}
use Rattle.areas.proofs.ListLaws.{tab_length}
use Rattle.areas.proofs.KindLaws.{slots_fit, kind_values}
use Rattle.areas.proofs.KeptLaws.{kept_all}
use Rattle.areas.proofs.Needs.{tec_values, all_exponents}
use Rattle.areas.proofs.Sorted.{extras, of_maps, Quiet}
use Rattle.areas.proofs.Seams.{cells, put_quiet, run_tecs, run_slots}
use Rattle.areas.proofs.Thirds.{put_one, thirds}
use Rattle.areas.proofs.Marked.{epochs_quiet, run_epochs, put_bit, bits_quiet, two_bits, run_bits, no_marks, marks_zip}

pub single : (bs : List Block) → flat (map (λ x. x.exponent ∷ []) bs) ≡ map (λ x. x.exponent) bs
single [] = refl
single (x ∷ bs) = ap (λ r. x.exponent ∷ r) (single bs)

none_before : (B w : ℕ) → 0 ≡ 0 * B * w
none_before B w = sym (ap (λ j. j * w) (zero-mul B) ∙ zero-mul w)

-- ---- the RMS or height maps

module _ (n B C : ℕ) (k : Kind) (xs : List OtherMap) (r : Rising n B C 0 xs) where
  run_extras : (w : ℕ) (g : Block → List ℤ) → ((x : Block) → length x.values ≡ C → length (g x) ≡ w) → (v : ℤ) → g (absent_block C) ≡ replicate w v → (rest : List ℤ)
      → scan (put B w g k) (extras k B xs) (replicate (n * B * w) v ++ rest) ≡ cells g (reads B C (slots n xs)) ++ rest
  run_extras w g gl v h rest =
      ap (λ ys. scan (put B w g k) (extras k B ys) (replicate (n * B * w) v ++ rest)) (sym (kept_all n B C xs r))
      ∙ ap (λ j. scan (put B w g k) (extras k B (kept 1 (slots n xs))) (replicate (j * B * w) v ++ rest)) (sym (tab_length 1 n (found xs)))
      ∙ run_slots n B C w g k gl 0 (slots n xs) [] rest v h (slots_fit n B C 0 xs r) (none_before B w)

  extra_exponents : scan (put_one B k) (extras k B xs) (replicate (n * B) (negsuc 0)) ≡ exponents_of (reads B C (slots n xs))
  extra_exponents =
      ap (scan (put_one B k) (extras k B xs)) (ap (λ j. replicate j (negsuc 0)) (sym (mul-one (n * B))) ∙ sym (append-nil (replicate (n * B * 1) (negsuc 0))))
      ∙ run_extras 1 (λ x. x.exponent ∷ []) (λ x h. refl) (negsuc 0) refl [] ∙ append-nil _ ∙ single (flat (reads B C (slots n xs)))

  extra_bits : scan (put_bit k) (extras k B xs) (replicate n false) ≡ map there (slots n xs)
  extra_bits =
      ap (λ ys. scan (put_bit k) (extras k B ys) (replicate n false)) (sym (kept_all n B C xs r))
      ∙ ap (λ j. scan (put_bit k) (extras k B (kept 1 (slots n xs))) (replicate j false)) (sym (tab_length 1 n (found xs))) ∙ run_bits k B 0 (slots n xs) [] refl

-- where the kind has no map, nothing is stored
extra_values : (n B C : ℕ) (k : Kind) (xs : List OtherMap) → Rising n B C 0 xs → (l : List ℤ)
    → scan (put_values B C k) (extras k B xs) (fill (pos 9999) (length (wanted xs (values_of (reads B C (slots n xs))))) l) ≡ front (wanted xs (values_of (reads B C (slots n xs)))) l
extra_values n B C k [] r l = refl
extra_values n B C k (x ∷ xs) r l =
    let vs : List ℤ = values_of (reads B C (slots n (x ∷ xs))) in
    ap (λ j. scan (put_values B C k) (extras k B (x ∷ xs)) (replicate j (pos 9999) ++ drop (length vs) l)) (kind_values n B C 0 (x ∷ xs) r)
    ∙ run_extras n B C k (x ∷ xs) r C (λ b. b.values) (λ x h. h) (pos 9999) refl (drop (length vs) l)

-- ---- the events of all maps: each store sees those of its kind

module _ (n B C : ℕ) (N : Kind → ℕ) (m : Maps) (f : MapsRules n B C m) (es : List Event) (a : All (Inside n B C N) es)
    (sorted : (A : Type 0) (g : Event → List A → List A) (k : Kind) → Quiet g k → (l : List A) → scan g es l ≡ scan g (of_maps k B 0 m) l) where
  store_tec : (l : List ℤ) → n * B * C ≤ length l → scan (put_values B C Tec) es l ≡ front (values_of (tec_blocks m)) l
  store_tec l room =
      sorted ℤ (put_values B C Tec) Tec (put_quiet B C (λ b. b.values) Tec) l
      ∙ ap (scan (put_values B C Tec) (of_maps Tec B 0 m)) (sym (take-append-drop (n * B * C) l))
      ∙ run_tecs n B C C (λ b. b.values) Tec (λ x h. h) 0 m.tec [] (take (n * B * C) l) (drop (n * B * C) l) refl f.tec
      (length-take-le (n * B * C) l room ∙ ap (λ j. j * B * C) (sym f.count)) (none_before B C)
      ∙ ap (λ j. values_of (tec_blocks m) ++ drop j l) (sym (tec_values n B C m f))

  store_rms : (l : List ℤ) → scan (put_values B C Rms) es (fill (pos 9999) (length (wanted m.rms (values_of (reads B C (slots n m.rms))))) l)
      ≡ front (wanted m.rms (values_of (reads B C (slots n m.rms)))) l
  store_rms l = sorted ℤ (put_values B C Rms) Rms (put_quiet B C (λ b. b.values) Rms) _ ∙ extra_values n B C Rms m.rms f.rms l

  store_height : (l : List ℤ) → scan (put_values B C Height) es (fill (pos 9999) (length (wanted m.height (values_of (reads B C (slots n m.height))))) l)
      ≡ front (wanted m.height (values_of (reads B C (slots n m.height)))) l
  store_height l = sorted ℤ (put_values B C Height) Height (put_quiet B C (λ b. b.values) Height) _ ∙ extra_values n B C Height m.height f.height l

  store_epochs : (l : List ℕ) → n ≤ length l → scan put_epoch es l ≡ front (map (λ t. t.epoch) m.tec) l
  store_epochs l room =
      sorted ℕ put_epoch Tec epochs_quiet l
      ∙ ap (scan put_epoch (of_maps Tec B 0 m)) (sym (take-append-drop n l))
      ∙ run_epochs B 0 m.tec [] (take n l) (drop n l) (length-take-le n l room ∙ sym f.count) refl
      ∙ ap (λ j. map (λ t. t.epoch) m.tec ++ drop j l) (sym (length-map m.tec (λ t. t.epoch) ∙ f.count))

  store_marks : (l : List ℕ) → scan put_mark es (fill 0 n l) ≡ front (areas_of n B C m).marks l
  unfolding areas_of
  store_marks l =
      ap (λ s. scan put_mark es (s ++ drop n l)) (no_marks n)
      ∙ two_bits n B C N es (replicate n false) (replicate n false) (drop n l) a (length-replicate n false) (length-replicate n false)
      ∙ (λ i. zipw mark ((sorted Bool (put_bit Rms) Rms (bits_quiet Rms) (replicate n false) ∙ extra_bits n B C Rms m.rms f.rms) i) ((sorted Bool (put_bit Height) Height (bits_quiet Height) (replicate n false) ∙ extra_bits n B C Height m.height f.height) i) ++ drop n l)
      ∙ (λ i. marks_zip 1 n (found m.rms) (found m.height) i ++ drop (sym (tab_length 1 n (λ j. mark (there (found m.rms j)) (there (found m.height j)))) i) l)

  -- three times the same before, and the three kinds after
  tec_third : scan (put_one B Tec) es (replicate (n * B) (negsuc 0)) ≡ exponents_of (tec_blocks m)
  tec_third =
      let l : length (replicate (n * B) (negsuc 0)) ≡ length m.tec * B * 1 = length-replicate (n * B) (negsuc 0) ∙ ap (λ j. j * B) (sym f.count) ∙ sym (mul-one _) in
      sorted ℤ (put_one B Tec) Tec (put_quiet B 1 (λ x. x.exponent ∷ []) Tec) _
      ∙ ap (scan (put_one B Tec) (of_maps Tec B 0 m)) (sym (append-nil (replicate (n * B) (negsuc 0))))
      ∙ run_tecs n B C 1 (λ x. x.exponent ∷ []) Tec (λ x h. refl) 0 m.tec [] (replicate (n * B) (negsuc 0)) [] refl f.tec l (none_before B 1)
      ∙ append-nil _ ∙ single (flat (tec_blocks m))

  store_exponents : (l : List ℤ) → scan (put_exponent n B) es (fill (negsuc 0) (3 * (n * B)) l) ≡ front (areas_of n B C m).exponents l
  unfolding areas_of
  store_exponents l =
      let R : List ℤ = replicate (n * B) (negsuc 0) in
      let e : List ℤ = drop (3 * (n * B)) l in
      let three : replicate (3 * (n * B)) (negsuc 0) ≡ R ++ (R ++ R) =
      (let z : 3 * (n * B) ≡ n * B + (n * B + n * B) = omega arith in ap (λ j. replicate j (negsuc 0)) z ∙ sym (replicate-append-replicate (n * B) (n * B + n * B) (negsuc 0)) ∙ ap (λ s. R ++ s) (sym (replicate-append-replicate (n * B) (n * B) (negsuc 0)))) in
      let x : List ℤ = exponents_of (tec_blocks m) in
      let y : List ℤ = exponents_of (reads B C (slots n m.rms)) in
      let z : List ℤ = exponents_of (reads B C (slots n m.height)) in
      ap (scan (put_exponent n B) es) (ap (λ s. s ++ e) three ∙ append_assoc R (R ++ R) e ∙ ap (λ s. R ++ s) (append_assoc R R e))
      ∙ thirds n B C N es R R R e a (length-replicate (n * B) (negsuc 0)) (length-replicate (n * B) (negsuc 0)) (length-replicate (n * B) (negsuc 0))
      ∙ (λ i. tec_third i
      ++ ((sorted ℤ (put_one B Rms) Rms (put_quiet B 1 (λ x. x.exponent ∷ []) Rms) R ∙ extra_exponents n B C Rms m.rms f.rms) i
      ++ ((sorted ℤ (put_one B Height) Height (put_quiet B 1 (λ x. x.exponent ∷ []) Height) R ∙ extra_exponents n B C Height m.height f.height) i ++ e)))
      ∙ sym (append_assoc x (y ++ z) e ∙ ap (λ s. x ++ s) (append_assoc y z e))
      ∙ ap (λ j. (x ++ (y ++ z)) ++ drop j l) (sym (all_exponents n B C m f))

  pub stored : (l : Areas) → n * B * C ≤ length l.tec → n ≤ length l.epochs
      → scanned n B C es (cleared n B (length (areas_of n B C m).rms) (length (areas_of n B C m).height) l) ≡ fronts (areas_of n B C m) l
  unfolding scanned cleared fronts areas_of
  stored l room room' =
      λ i. record {
        tec = store_tec l.tec room i;
        rms = store_rms l.rms i;
        height = store_height l.height i;
        exponents = store_exponents l.exponents i;
        epochs = store_epochs l.epochs room' i;
        marks = store_marks l.marks i;
      }
