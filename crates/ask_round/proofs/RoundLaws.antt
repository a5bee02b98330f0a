-- The computed rounding is the nearest whole number, and no other number is; it stays between whole bounds of the fraction.
use mathlib.Core.Path.{◌≡◌, refl, ap, ◌∙◌, sym}
use mathlib.Core.Logic.{◌⊎◌, inl, inr, ⊎_elim}
use Prim.Native.Nat.{ℕ, suc, ◌+◌, ◌*◌, ◌-◌, ◌/◌, ◌%◌, ◌≤◌, ◌<◌}
use native.Mathlib.Nat.{div-mul-le_self, lt-div-mul-add, mul-le-mul_left, mul-le-mul_right, lt_of_not-le, div-lt_iff_lt-mul, div-add-mod, mod-lt}
use native.Mathlib.Decide.{dec_le}
use native.Mathlib.Omega.{arith}
use lib.Arith.{digits_div}
use mathlib.Core.Bool.{cond}
use lib.Signed.{lt_z}
use borrow.Author.Tests.{le-ltb}
use lib.IntN.{ℤ, pos, negsuc, neg_ℤ, nat_abs, ◌-ℤ◌, ◌*ℤ◌}
use Rattle.kit.specs.Integer.{up, dn}
use Rattle.kit.proofs.Parts.{add_parts, neg_up, neg_dn, scale_up, scale_dn, one_zero, eq_parts, abs_parts}
use Rattle.ask_round.specs.Round.{apart, Nearest}
use Rattle.ask_round.specs.Rounded.{round_abs, rounded}

-- ---- the distance, in naturals
apart_is : (s : ℤ) (d : ℕ) (r : ℤ) → apart s d r ≡ ((d * up r + dn s) - (d * dn r + up s)) + ((d * dn r + up s) - (d * up r + dn s))
unfolding apart
apart_is s d r =
    let z : ℤ = pos d *ℤ r -ℤ s in
    let p = add_parts (pos d *ℤ r) (neg_ℤ s) in
    let q = scale_up d r in
    let q' = scale_dn d r in
    let n = neg_up s in
    let n' = neg_dn s in
    let a = abs_parts z in
    ⊎_elim (λ e. omega arith) (λ e. omega arith) (one_zero z)

module _ (m d : ℕ) (h : 0 < d) where
  bounds : (2 * (d * round_abs m d) ≤ 2 * m + d) × (2 * m + d < 2 * (d * round_abs m d) + 2 * d)
  bounds = let p : 0 < 2 * d = omega arith in
      (omega (arith, div-mul-le_self (2 * m + d) (2 * d)), omega (arith, lt-div-mul-add {a = 2 * m + d} p))

pub round_nearest : (s : ℤ) (d : ℕ) → 0 < d → Nearest s d (rounded s d)
unfolding rounded
round_nearest (pos m) d h =
    let r = pos (round_abs m d) in
    let e = apart_is (pos m) d r in
    let b = bounds m d h in
    record { near = omega arith; away = λ t. omega arith }
round_nearest (negsuc m) d h =
    let q : ℕ = round_abs (suc m) d in
    let r : ℤ = neg_ℤ (pos q) in
    let e = apart_is (negsuc m) d r in
    let b = bounds (suc m) d h in
    let u : d * up r ≡ 0 = ap (λ (k : ℕ). d * k) (neg_up (pos q)) ∙ omega arith in
    let v : d * dn r ≡ d * q = ap (λ (k : ℕ). d * k) (neg_dn (pos q)) in
    let w : d * nat_abs r ≡ d * q = ap (λ (k : ℕ). d * k) (abs_parts r ∙ omega (arith, neg_up (pos q), neg_dn (pos q))) in
    record { near = omega arith; away = λ t. omega arith }

times_zero : (d : ℕ) (x : ℤ) → (d * dn x ≡ 0) ⊎ ((d * up x ≡ 0) × (d ≤ d * dn x))
times_zero d (pos n) = inl (omega arith)
times_zero d (negsuc n) = inr (omega arith)

module _ (s : ℤ) (d : ℕ) (h : 0 < d) (r t : ℤ) (p : Nearest s d r) (q : Nearest s d t) where
  below : up r + dn t < up t + dn r → ⊥
  below k =
      let e = apart_is s d r in
      let f = apart_is s d t in
      let m = mul-le-mul_left d k in
      let tie₁ : 2 * apart s d r ≡ d = omega (arith, p.near, q.near) in
      let tie₂ : 2 * apart s d t ≡ d = omega (arith, p.near, q.near) in
      let a₁ = p.away tie₁ in
      let a₂ = q.away tie₂ in
      let b = abs_parts s in
      let b₁ : d * nat_abs r ≡ d * up r + d * dn r = ap (λ (k : ℕ). d * k) (abs_parts r) ∙ omega arith in
      let b₂ : d * nat_abs t ≡ d * up t + d * dn t = ap (λ (k : ℕ). d * k) (abs_parts t) ∙ omega arith in
      ⊎_elim
      (λ x. ⊎_elim (λ y. ⊎_elim (λ w. omega arith) (λ w. omega arith) (times_zero d t)) (λ y. ⊎_elim (λ w. omega arith) (λ w. omega arith) (times_zero d t)) (times_zero d r))
      (λ x. ⊎_elim (λ y. ⊎_elim (λ w. omega arith) (λ w. omega arith) (times_zero d t)) (λ y. ⊎_elim (λ w. omega arith) (λ w. omega arith) (times_zero d t)) (times_zero d r))
      (one_zero s)

pub nearest_unique : (s : ℤ) (d : ℕ) → 0 < d → (r t : ℤ) → Nearest s d r → Nearest s d t → r ≡ t
nearest_unique s d h r t p q = eq_parts r t (by (dec_le (up r + dn t) (up t + dn r)) (dec_le (up t + dn r) (up r + dn t)))
  where
    by : Dec (up r + dn t ≤ up t + dn r) → Dec (up t + dn r ≤ up r + dn t) → up r + dn t ≡ up t + dn r
    by (yes a) (yes b) = omega arith
    by (yes a) (no b) = absurd (below s d h r t p q (lt_of_not-le b))
    by (no a) (yes b) = absurd (below s d h t r q p (lt_of_not-le a))
    by (no a) (no b) = omega arith

pub round_by_sign : (s : ℤ) (d : ℕ) → rounded s d ≡ cond (lt_z s (pos 0)) (neg_ℤ (pos (round_abs (nat_abs s) d))) (pos (round_abs (nat_abs s) d))
unfolding rounded
round_by_sign (pos m) d = rw (le-ltb m 0 (omega arith)) refl
round_by_sign (negsuc m) d = refl

-- rounding makes a number no larger in size than its numerator
pub round_abs_le : (m d : ℕ) → 0 < d → round_abs m d ≤ m
round_abs_le m d h =
    let p : 0 < 2 * d = omega arith in
    let k : round_abs m d < m + 1 = (div-lt_iff_lt-mul {x = 2 * m + d} {y = m + 1} p).1 (omega (arith, mul-le-mul_right m h)) in
    omega arith

-- ---- the rounded quotient is no smaller, or larger, than a whole number that the quotient is no smaller, or larger, than. The whole number is a - b
module _ (s : ℤ) (d : ℕ) (h : 0 < d) (a b : ℕ) where
  pub round_above : d * a + dn s ≤ up s + d * b → a + dn (rounded s d) ≤ up (rounded s d) + b
  round_above k = by (dec_le (a + dn (rounded s d)) (up (rounded s d) + b))
    where
      by : Dec (a + dn (rounded s d) ≤ up (rounded s d) + b) → a + dn (rounded s d) ≤ up (rounded s d) + b
      by (yes p) = p
      by (no p) = absurd (omega (arith, mul-le-mul_left d (lt_of_not-le p), (round_nearest s d h).near, apart_is s d (rounded s d)))

  pub round_below : up s + d * b ≤ d * a + dn s → up (rounded s d) + b ≤ a + dn (rounded s d)
  round_below k = by (dec_le (up (rounded s d) + b) (a + dn (rounded s d)))
    where
      by : Dec (up (rounded s d) + b ≤ a + dn (rounded s d)) → up (rounded s d) + b ≤ a + dn (rounded s d)
      by (yes p) = p
      by (no p) = absurd (omega (arith, mul-le-mul_left d (lt_of_not-le p), (round_nearest s d h).near, apart_is s d (rounded s d)))

pub round_size : (s : ℤ) (d m : ℕ) → 0 < d → nat_abs s ≤ d * m → nat_abs (rounded s d) ≤ m
round_size s d m h k =
    let a = abs_parts s in
    let r : ℤ = rounded s d in
    let b = round_above s d h 0 m (omega arith) in
    let c = round_below s d h m 0 (omega arith) in
    ⊎_elim (λ e. omega (arith, abs_parts r)) (λ e. omega (arith, abs_parts r)) (one_zero r)

-- ---- by quotient and remainder
module _ (m d : ℕ) (h : 0 < d) where
  pub round_down : 2 * (m % d) < d → m / d ≡ round_abs m d
  round_down l =
      let e : 2 * m + d ≡ m / d * (2 * d) + (2 * (m % d) + d) = omega (arith, div-add-mod m d) in
      sym (ap (λ (k : ℕ). k / (2 * d)) e ∙ digits_div (m / d) {m = 2 * d} {r = 2 * (m % d) + d} (omega arith))

  pub round_up : d ≤ 2 * (m % d) → m / d + 1 ≡ round_abs m d
  round_up l =
      let e : 2 * m + d ≡ (m / d + 1) * (2 * d) + (2 * (m % d) - d) = omega (arith, div-add-mod m d) in
      sym (ap (λ (k : ℕ). k / (2 * d)) e ∙ digits_div (m / d + 1) {m = 2 * d} {r = 2 * (m % d) - d} (omega (arith, mod-lt m h)))
