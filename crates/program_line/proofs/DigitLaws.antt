-- The fewest digits that hold a number are the digits of `fields`.
use mathlib.Core.Path.{◌≡◌, refl, ◌∙◌}
use mathlib.Core.List.{[], ◌∷◌, ◌++◌}
use Prim.Native.Nat.{ℕ, zero, suc, ◌+◌, ◌-◌, ◌*◌, ◌/◌, ◌%◌, ◌^◌, ◌≤◌, ◌<◌}
use native.Mathlib.Nat.{pow-suc, one-le-pow, pow-le-pow_right}
use native.Mathlib.Decide.{dec_le}
use native.Mathlib.Numerals.{sub-one}
use native.Mathlib.Omega.{arith}
use borrow.Author.Tests.{lt-ltb}
use lib.ListN.{length, length-append}
use Rattle.io.specs.Digits.{hex_digit_ascii, IsDigitCount}
use Rattle.io.specs.Digits as text
use Rattle.forms.specs.Show.{figures, digits}
use Rattle.forms.proofs.ShowLaws.{figures_enough}

glyph_is : (d : ℕ) → d < 10 → hex_digit_ascii d ≡ 48 + d
glyph_is d h = rw (lt-ltb d 10 h)

lower : (k n : ℕ) → 10 ^ k ≤ n → 0 < k → 10 ^ (k - 1) ≤ n / 10
lower zero n h z = absurd (omega arith)
lower (suc k) n h z = let g : 10 ^ k * 10 ≤ n = omega (arith, pow-suc 10 k) in rw sub-one (omega arith)

-- k digits, where n has no fewer
few : (k n : ℕ) → n < 10 ^ k → (0 < k → 10 ^ (k - 1) ≤ n) → text.last_digits 10 k n ≡ figures n n
few zero zero h l = refl
few zero (suc n) h l = absurd (omega arith)
few (suc k) zero h l = let g : 10 ^ k ≤ 0 = rw sub-one at (l (omega arith)) in absurd (omega (arith, one-le-pow k 10 (omega arith)))
few (suc k) (suc n) h l =
    let g : 10 ^ k ≤ suc n = rw sub-one at (l (omega arith)) in
    let e = few k (suc n / 10) (omega (arith, pow-suc 10 k)) (lower k (suc n) g) in
    let d = glyph_is (suc n % 10) (omega arith) in
    let f = figures_enough (suc n / 10) n (suc n / 10) (omega arith) (omega arith) in
    λ i. (e ∙ f) i ++ (d i ∷ [])

some : (n : ℕ) → figures (suc n) (suc n) ≡ digits 1 (suc n)
unfolding digits
some n = let z : 1 - length (figures (suc n) (suc n)) ≡ 0 = omega (arith, length-append (figures n (suc n / 10)) ((48 + suc n % 10) ∷ [])) in rw z

pub fewest : (k n : ℕ) → IsDigitCount 10 1 n k → text.last_digits 10 k n ≡ digits 1 n
unfolding digits
fewest zero n f = absurd (omega (arith, f.0))
fewest (suc zero) zero f = refl
fewest (suc (suc k)) zero f = let g : 10 ^ suc k ≤ 0 = rw sub-one at (f.2 (omega arith)) in absurd (omega (arith, one-le-pow (suc k) 10 (omega arith)))
fewest (suc zero) (suc n) f = few 1 (suc n) f.1 (λ z. omega arith) ∙ some n
fewest (suc (suc k)) (suc n) f = few (suc (suc k)) (suc n) f.1 (λ z. f.2 (omega arith)) ∙ some n

-- a u64 has at most 20
pub twenty : (k n : ℕ) → IsDigitCount 10 1 n k → n < 2 ^ 64 → k ≤ 20
twenty k n f h = by (dec_le k 20)
  where
    by : Dec (k ≤ 20) → k ≤ 20
    by (yes p) = p
    by (no m) = absurd (omega (arith, f.2 (omega arith), pow-le-pow_right {n = 10} (omega arith) {i = 20} {j = k - 1} (omega arith)))
