-- The exponents: each kind in its own third.
use mathlib.Core.Path.{◌≡◌, refl, sym, ap, ◌∙◌}
use mathlib.Core.List.{List, [], ◌∷◌, ◌++◌}
use Prim.Native.Nat.{ℕ, zero, suc, ◌+◌, ◌*◌, ◌<◌}
use native.Mathlib.Omega.{arith}
use native.Mathlib.Nat.{mul-one}
use lib.ListN.{length, set, length-set}
use lib.Seq.{set-append_left}
use lib.IntN.{ℤ}
use Rattle.kit.specs.Answer.{All}
use Rattle.mapset.specs.declared.Kind.{Kind}
use Rattle.mapset.specs.declared.Kind.TheVariants.{Tec, Rms, Height}
use Rattle.areas.specs.Events.{Event, epoch, marked, block}
use Rattle.areas.specs.Stores.{put, put_exponent, scan, Inside}
use Rattle.areas.specs.Places.{before}

set_append_right : {A : Type 0} (xs ys : List A) (s i : ℕ) (a : A) → length xs ≡ s → set (xs ++ ys) (s + i) a ≡ xs ++ set ys i a
set_append_right [] ys s i a e = let z : s + i ≡ i = omega arith in ap (λ j. set ys j a) z
set_append_right (x ∷ xs) ys zero i a e = absurd (omega arith)
set_append_right (x ∷ xs) ys (suc s) i a e = let z : suc s + i ≡ suc (s + i) = omega arith in rw z (ap (λ r. x ∷ r) (set_append_right xs ys s i a (omega arith)))

-- a block's exponent, in the third of its kind
abbrev pub put_one : (B : ℕ) → Kind → Event → List ℤ → List ℤ
put_one B k = put B 1 (λ x. x.exponent ∷ []) k

module _ (n B C : ℕ) (N : Kind → ℕ) where
  module _ (p q r rest : List ℤ) (x : length p ≡ n * B) (y : length q ≡ n * B) (z : length r ≡ n * B) (at : ℕ) (v : ℤ) (a : at < n * B) where
    one : at ≡ at * 1
    one = sym (mul-one at)

    set_first : set (p ++ (q ++ (r ++ rest))) (0 + at) v ≡ set p (at * 1) v ++ (q ++ (r ++ rest))
    set_first =
        let j : 0 + at ≡ at * 1 = omega (arith, one) in
        ap (λ t. set (p ++ (q ++ (r ++ rest))) t v) j ∙ set-append_left p (q ++ (r ++ rest)) (at * 1) v (omega (arith, one))

    set_second : set (p ++ (q ++ (r ++ rest))) (n * B + at) v ≡ p ++ (set q (at * 1) v ++ (r ++ rest))
    set_second =
        ap (λ t. set (p ++ (q ++ (r ++ rest))) (n * B + t) v) one ∙ set_append_right p (q ++ (r ++ rest)) (n * B) (at * 1) v x
        ∙ ap (λ t. p ++ t) (set-append_left q (r ++ rest) (at * 1) v (omega (arith, one)))

    set_last : set (p ++ (q ++ (r ++ rest))) (n * B + n * B + at) v ≡ p ++ (q ++ (set r (at * 1) v ++ rest))
    set_last =
        let j : n * B + n * B + at ≡ n * B + (n * B + at * 1) = omega (arith, one) in
        ap (λ t. set (p ++ (q ++ (r ++ rest))) t v) j ∙ set_append_right p (q ++ (r ++ rest)) (n * B) (n * B + at * 1) v x
        ∙ ap (λ t. p ++ t) (set_append_right q (r ++ rest) (n * B) (at * 1) v y ∙ ap (λ t. q ++ t) (set-append_left r rest (at * 1) v (omega (arith, one))))

  pub thirds : (es : List Event) (p q r rest : List ℤ) → All (Inside n B C N) es → length p ≡ n * B → length q ≡ n * B → length r ≡ n * B
      → scan (put_exponent n B) es (p ++ (q ++ (r ++ rest)))
      ≡ scan (put_one B Tec) es p ++ (scan (put_one B Rms) es q ++ (scan (put_one B Height) es r ++ rest))
  thirds [] p q r rest a x y z = refl
  thirds (epoch i e ∷ es) p q r rest a x y z = thirds es p q r rest a.1 x y z
  thirds (marked k i ∷ es) p q r rest a x y z = thirds es p q r rest a.1 x y z
  thirds (block Tec i b o ∷ es) p q r rest a x y z =
      ap (scan (put_exponent n B) es) (set_first p q r rest x y z (before B i b) o.exponent a.0.0)
      ∙ thirds es (set p (before B i b * 1) o.exponent) q r rest a.1 (length-set p (before B i b * 1) o.exponent ∙ x) y z
  thirds (block Rms i b o ∷ es) p q r rest a x y z =
      ap (scan (put_exponent n B) es) (set_second p q r rest x y z (before B i b) o.exponent a.0.0)
      ∙ thirds es p (set q (before B i b * 1) o.exponent) r rest a.1 x (length-set q (before B i b * 1) o.exponent ∙ y) z
  thirds (block Height i b o ∷ es) p q r rest a x y z =
      ap (scan (put_exponent n B) es) (set_last p q r rest x y z (before B i b) o.exponent a.0.0)
      ∙ thirds es p q (set r (before B i b * 1) o.exponent) rest a.1 x y (length-set r (before B i b * 1) o.exponent ∙ z)
