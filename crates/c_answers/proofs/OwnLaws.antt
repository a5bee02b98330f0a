-- A call's own areas: long enough where 0 is told.
use mathlib.Core.Path.{◌≡◌, sym, ◌∙◌}
use Prim.Native.Nat.{ℕ, ◌≤◌, ◌<◌}
use native.Mathlib.Omega.{arith}
use native.Mathlib.Decide.{ℕ_discrete, dec_le}
use Rattle.kit.specs.Answer.{pick}
use Rattle.kit.proofs.AnswerLaws.{pick_yes, pick_no}
use Rattle.c_answers.specs.Own.{too_short, unless, too_short_two}

pub record Fit (h x r n : ℕ) : Type 0 where
  pub header : 45 ≤ h
  pub texts : 1324 ≤ x
  pub result : n ≤ r

module _ (h x r n : ℕ) where
  all_fit : (a : Dec (45 ≤ h)) (b : Dec (1324 ≤ x)) (c : Dec (n ≤ r)) → ◌≡◌ {A = ℕ} (pick a (pick b (pick c 0 103) 102) 101) 0 → Fit h x r n
  unfolding pick
  all_fit (yes p) (yes q) (yes s) e = record { header = p; texts = q; result = s }
  all_fit (yes p) (yes q) (no s) e = absurd (omega (arith, e))
  all_fit (yes p) (no q) c e = absurd (omega (arith, e))
  all_fit (no p) b c e = absurd (omega (arith, e))

  -- what a call told, as it is compared with 0
  pub none : {k : ℕ} → k ≡ too_short h x r n → k < 1 → too_short h x r n ≡ 0
  none e p = omega (arith, e, p)

  pub fit : {k : ℕ} → k ≡ too_short h x r n → k < 1 → Fit h x r n
  unfolding too_short
  fit e p = all_fit (dec_le 45 h) (dec_le 1324 x) (dec_le n r) (none e p)

module _ {A : Type 0} {k : ℕ} (a : A) (f : ℕ → A) where
  pub unless_none : k ≡ 0 → unless k a f ≡ a
  unfolding unless
  unless_none e = pick_yes (ℕ_discrete k 0) a (f k) e

  pub unless_short : 1 ≤ k → unless k a f ≡ f k
  unfolding unless
  unless_short p = pick_no (ℕ_discrete k 0) a (f k) (λ e. omega (arith, e))

-- ---- two areas for the result
pub record FitTwo (h x a m b n : ℕ) : Type 0 where
  pub header : 45 ≤ h
  pub texts : 1324 ≤ x
  pub first : m ≤ a
  pub second : n ≤ b

module _ (h x a m b n : ℕ) where
  pub short_first : {k : ℕ} → k ≡ too_short h x a m → 1 ≤ k → k ≡ too_short_two h x a m b n
  short_first e p = e ∙ sym (unless_short (too_short h x b n) (λ k. k) (omega (arith, e, p)))

  pub short_then : {k l : ℕ} → k ≡ too_short h x a m → k < 1 → l ≡ too_short h x b n → l ≡ too_short_two h x a m b n
  short_then e p f = f ∙ sym (unless_none (too_short h x b n) (λ k. k) (omega (arith, sym e, p)))

  -- where neither test tells a number
  apart : Dec (too_short h x a m ≡ 0) → too_short_two h x a m b n ≡ 0 → (too_short h x a m ≡ 0) × (too_short h x b n ≡ 0)
  apart (yes e) f = (e, sym (unless_none (too_short h x b n) (λ j. j) e) ∙ f)
  apart (no k) f = absurd (k (sym (unless_short (too_short h x b n) (λ j. j) (omega arith)) ∙ f))

  pub fit_two : {k : ℕ} → k ≡ too_short_two h x a m b n → k < 1 → FitTwo h x a m b n
  fit_two e p =
      let r = apart (ℕ_discrete (too_short h x a m) 0) (omega (arith, e, p)) in
      let u = fit h x a m (sym r.0) (omega arith) in
      let v = fit h x b n (sym r.1) (omega arith) in
      record { header = u.header; texts = u.texts; first = u.result; second = v.result }
