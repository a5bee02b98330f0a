-- What several copies one behind the other leave.
use mathlib.Core.Path.{◌≡◌, refl, ◌∙◌, ap, sym}
use mathlib.Core.Bool.{Bool, true, false, cond}
use mathlib.Core.List.{List, [], ◌∷◌, ◌++◌, append_assoc}
use Prim.Native.Nat.{ℕ, suc, ◌+◌, ◌-◌, ◌*◌, ◌≤◌}
use native.Mathlib.Omega.{arith}
use lib.IntN.{ℤ, pos}
use lib.ListN.{length, take, drop, length-append, length-drop, length-replicate}
use lib.Seq.{paste, take_at, drop_at, drop-drop, length-take-le, take_all, take-take}
use Rattle.kit.specs.Lists.{front}
use Rattle.mapset.specs.declared.Kind.{Kind}
use Rattle.mapset.specs.declared.Kind.TheVariants.{Tec, Rms, Height}
use Rattle.mapset.specs.Areas.{first_of}
use Rattle.mapset.proofs.FirstLaws.{first_within}
use Rattle.areas.specs.Nest.{third}
use Rattle.join_lists.specs.Lists.{or_absent, ThirdsFit, third_of_two, thirds_of_two}

-- ---- copies one behind the other
module _ {A : Type 0} where
  -- y behind x
  front_more : (x y l : List A) (at n : ℕ) → at ≡ length x → n ≡ length y → length x + length y ≤ length l → paste (front x l) at y n ≡ front (x ++ y) l
  front_more x y l at n p q h =
      let t : take at (front x l) ≡ x = take_at x (drop (length x) l) at (sym p) in
      let d : drop (length x) (front x l) ≡ drop (length x) l = drop_at x (drop (length x) l) (length x) refl in
      let a : take n y ≡ y = take_all n y (omega (arith, q)) in
      let s : at + n ≡ length x + length y = omega (arith, p, q) in
      let r : length (x ++ y) ≡ length x + length y = length-append x y in
      let k : drop (at + n) (front x l) ≡ drop (length (x ++ y)) l =
      ap (λ i. drop i (front x l)) s ∙ sym (drop-drop (length y) (length x) (front x l)) ∙ ap (drop (length y)) d ∙ drop-drop (length y) (length x) l ∙ ap (λ i. drop i l) (sym r) in
      λ i. (t i ++ a i) ++ k i

  front_length : (x l : List A) → length x ≤ length l → length (front x l) ≡ length l
  front_length [] l h = refl
  front_length (y ∷ x) [] h = absurd (omega arith)
  front_length (y ∷ x) (z ∷ l) h = ap suc (front_length x l (omega arith))

  -- two pastes, the second behind the first, are one
  paste_both : (d : List A) (at : ℕ) (x y : List A) → at + (length x + length y) ≤ length d
      → paste (paste d at x (length x)) (at + length x) y (length y) ≡ paste d at (x ++ y) (length x + length y)
  paste_both d at x y h =
      let p : List A = take at d ++ take (length x) x in
      let tx : take (length x) x ≡ x = take_all (length x) x (omega arith) in
      let ty : take (length y) y ≡ y = take_all (length y) y (omega arith) in
      let n : length p ≡ at + length x = length-append (take at d) (take (length x) x) ∙ omega (arith, length-take-le at d (omega arith), ap length tx) in
      let t : take (at + length x) (p ++ drop (at + length x) d) ≡ p = take_at p (drop (at + length x) d) (at + length x) n in
      let u : drop (at + length x) (p ++ drop (at + length x) d) ≡ drop (at + length x) d = drop_at p (drop (at + length x) d) (at + length x) n in
      let w : at + length x + length y ≡ at + (length x + length y) = omega arith in
      let k : drop (at + length x + length y) (p ++ drop (at + length x) d) ≡ drop (at + (length x + length y)) d =
      sym (drop-drop (length y) (at + length x) (p ++ drop (at + length x) d)) ∙ ap (drop (length y)) u ∙ drop-drop (length y) (at + length x) d ∙ ap (λ i. drop i d) w in
      let z : take (length x + length y) (x ++ y) ≡ x ++ y = take_all (length x + length y) (x ++ y) (omega (arith, length-append x y)) in
      (λ i. (t i ++ ty i) ++ k i) ∙ (λ i. ((take at d ++ tx i) ++ y) ++ drop (at + (length x + length y)) d)
      ∙ ap (λ r. r ++ drop (at + (length x + length y)) d) (append_assoc (take at d) x y ∙ ap (λ r. take at d ++ r) (sym z))

  -- x from the start, y behind it, z behind both
  pub two_copies : (x y l : List A) (m n : ℕ) → m ≡ length x → n ≡ length y → m + n ≤ length l → paste (paste l 0 x m) m y n ≡ front (x ++ y) l
  two_copies x y l m n p q h =
      ap (λ d. paste d m y n) (front_more [] x l 0 m refl p (omega arith)) ∙ front_more x y l m n p q (omega arith)

  three_copies : (x y z l : List A) (n : ℕ) → n ≡ length x → n ≡ length y → n ≡ length z → 3 * n ≤ length l
      → paste (paste (paste l 0 x n) n y n) (n + n) z n ≡ front (x ++ (y ++ z)) l
  three_copies x y z l n p q r h =
      let b : n + n ≡ length (x ++ y) = omega (arith, length-append x y) in
      ap (λ d. paste d (n + n) z n) (two_copies x y l n n p q (omega arith)) ∙ front_more (x ++ y) z l (n + n) n b r (omega (arith, length-append x y))
      ∙ ap (λ e. front e l) (append_assoc x y z)

-- ---- values of a kind
pub or_absent_length : (has : Bool) (n : ℕ) (l : List ℤ) → cond has n 0 ≤ length l → n ≡ length (or_absent has n l)
or_absent_length true n l h = sym (length-take-le n l h)
or_absent_length false n l h = sym (length-replicate n (pos 9999))

-- ---- the exponents of three kinds: k of m from i on, n from j on
module _ (k m n : ℕ) (a b l : List ℤ) (fit : ThirdsFit k m n a b l) where
  abbrev part : ℕ → ℕ → List ℤ
  part i j = take k (drop i a) ++ take n (drop j b)

  early_length : (i : ℕ) → i + m ≤ length a → length (take k (drop i a)) ≡ k
  early_length i h = length-take-le k (drop i a) (omega (arith, length-drop i a, fit.0))

  late_length : (j : ℕ) → j + n ≤ length b → length (take n (drop j b)) ≡ n
  late_length j h = length-take-le n (drop j b) (omega (arith, length-drop j b))

  in_early : (d : Kind) → first_of d m + m ≤ length a
  in_early d = omega (arith, first_within d m, fit.1)

  in_late : (d : Kind) → first_of d n + n ≤ length b
  in_late d = omega (arith, first_within d n, fit.2)

  third_part : (d : Kind) → part (first_of d m) (first_of d n) ≡ third_of_two k m n a b d
  third_part d = ap (λ r. r ++ third d n b) (sym (take-take k m (drop (first_of d m) a) fit.0))

  third_long : (d : Kind) → k + n ≡ length (third_of_two k m n a b d)
  third_long d =
      let i = first_of d m in
      let j = first_of d n in
      sym (length-append (take k (drop i a)) (take n (drop j b)) ∙ (λ t. early_length i (in_early d) t + late_length j (in_late d) t)) ∙ ap length (third_part d)

  -- one kind's two copies, as the code cuts its parts
  pub third_copied : (d : Kind) (at i j : ℕ) → at ≡ first_of d (k + n) → i ≡ first_of d m → j ≡ first_of d n → (o₁ o₂ : List ℤ)
      → o₁ ≡ paste l at (take (i + k - i) (drop i a)) (length (take (i + k - i) (drop i a)))
      → o₂ ≡ paste o₁ (at + k) (take (j + n - j) (drop j b)) (length (take (j + n - j) (drop j b)))
      → o₂ ≡ paste l (first_of d (k + n)) (third_of_two k m n a b d) (k + n)
  third_copied d at i j p q r o₁ o₂ x y =
      let u : i + k - i ≡ k = omega arith in
      let v : j + n - j ≡ n = omega arith in
      let e : length (take k (drop i a)) ≡ k = early_length i (omega (arith, q, in_early d)) in
      let f : length (take n (drop j b)) ≡ n = late_length j (omega (arith, r, in_late d)) in
      let c : o₁ ≡ paste l at (take k (drop i a)) (length (take k (drop i a))) = x ∙ (λ t. paste l at (take (u t) (drop i a)) (length (take (u t) (drop i a)))) in
      y ∙ (λ t. paste (c t) (at + sym e t) (take (v t) (drop j b)) (length (take (v t) (drop j b))))
      ∙ paste_both l at (take k (drop i a)) (take n (drop j b)) (omega (arith, e, f, p, first_within d (k + n), fit.3))
      ∙ (λ t. paste l (p t) (part (q t) (r t)) (e t + f t))
      ∙ ap (λ z. paste l (first_of d (k + n)) z (k + n)) (third_part d)

  pub three_kinds : (o₁ o₂ o₃ : List ℤ)
      → o₁ ≡ paste l 0 (third_of_two k m n a b Tec) (k + n)
      → o₂ ≡ paste o₁ (k + n) (third_of_two k m n a b Rms) (k + n)
      → o₃ ≡ paste o₂ (k + n + (k + n)) (third_of_two k m n a b Height) (k + n)
      → o₃ ≡ front (thirds_of_two k m n a b) l
  three_kinds o₁ o₂ o₃ x y z =
      z ∙ ap (λ o. paste o (k + n + (k + n)) (third_of_two k m n a b Height) (k + n)) (y ∙ ap (λ o. paste o (k + n) (third_of_two k m n a b Rms) (k + n)) x)
      ∙ three_copies (third_of_two k m n a b Tec) (third_of_two k m n a b Rms) (third_of_two k m n a b Height) l (k + n) (third_long Tec) (third_long Rms) (third_long Height) fit.3
