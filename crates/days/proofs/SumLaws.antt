-- Laws of sums, and of the place of a number among them.
use mathlib.Core.Path.{◌≡◌, ap}
use Prim.Native.Nat.{ℕ, zero, suc, ◌+◌, ◌*◌, ◌≤◌, ◌<◌}
use native.Mathlib.Omega.{arith}
use native.Mathlib.Nat.{lt_of_not-le, mul-suc}
use native.Mathlib.Numerals.{add-one}
use native.Mathlib.Decide.{dec_le}
use Rattle.days.specs.Sums.{sum, Place}

module _ (f : ℕ → ℕ) where
  pub sum_suc : (k : ℕ) → sum f (k + 1) ≡ sum f k + f k
  unfolding sum
  sum_suc k = rw add-one

  sum_mono : (k l : ℕ) → k ≤ l → sum f k ≤ sum f l
  unfolding sum
  sum_mono k zero h = let e : k ≡ 0 = omega arith in rw e (omega arith)
  sum_mono k (suc l) h = by (λ g. sum_mono k l g) (dec_le k l)
    where
      by : (k ≤ l → sum f k ≤ sum f l) → Dec (k ≤ l) → sum f k ≤ sum f l + f l
      by g (yes p) = omega (arith, g p)
      by g (no p) = let e : k ≡ suc l = omega (arith, lt_of_not-le p) in rw e (omega arith)

  pub sum_bound : (b : ℕ) → ((i : ℕ) → f i ≤ b) → (k : ℕ) → sum f k ≤ b * k
  unfolding sum
  sum_bound b h zero = omega arith
  sum_bound b h (suc k) = omega (arith, sum_bound b h k, h k, mul-suc b k)

  pub place_below : (d k r n : ℕ) → Place f d k r → k < n → d < sum f n
  unfolding sum
  place_below d k r n p h = omega (arith, p.at, p.less, sum_mono (suc k) n h)

  not_before : (d k l r s : ℕ) → Place f d k r → Place f d l s → k < l → ⊥
  unfolding sum
  not_before d k l r s a b h = omega (arith, a.at, a.less, b.at, sum_mono (suc k) l h)

  pub place_once : (d k l r s : ℕ) → Place f d k r → Place f d l s → (k ≡ l) × (r ≡ s)
  place_once d k l r s a b = by (dec_le k l) (dec_le l k)
    where
      by : Dec (k ≤ l) → Dec (l ≤ k) → (k ≡ l) × (r ≡ s)
      by (yes p) (yes q) = let e : k ≡ l = omega arith in (e, omega (arith, a.at, b.at, ap (sum f) e))
      by (yes p) (no q) = absurd (not_before d k l r s a b (lt_of_not-le q))
      by (no p) (yes q) = absurd (not_before d l k s r b a (lt_of_not-le p))
      by (no p) (no q) = absurd (omega arith)
