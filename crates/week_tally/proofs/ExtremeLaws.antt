-- Laws of the one that comes first.
use mathlib.Core.Path.{◌≡◌}
use native.Mathlib.Omega.{arith}
use lib.IntN.{ℤ}
use Rattle.std.specs.Int.{int_min, int_max}
use Rattle.std.proofs.lemmas.Int.{ints, clamps}
use Rattle.kit.specs.Integer.{le?}
use Rattle.kit.proofs.AnswerLaws.{pick_elim}
use Rattle.week_tally.proofs.Orders.{Order, first, rising, falling, le_other}

module _ {R : ℤ → ℤ → Type 0} (o : Order R) where
  pub first_left : (a b : ℤ) → R (first o a b) a
  first_left a b = pick_elim (λ (z : ℤ). R z a) (o.first? a b) (λ p. o.same a) (λ n. o.other a b n)

  pub first_right : (a b : ℤ) → R (first o a b) b
  first_right a b = pick_elim (λ (z : ℤ). R z b) (o.first? a b) (λ p. p) (λ n. o.same b)

  first_before : (a b c : ℤ) → R c a → R c b → R c (first o a b)
  first_before a b c p q = pick_elim (λ (z : ℤ). R c z) (o.first? a b) (λ _. p) (λ _. q)

  half : (a b : ℤ) → R (first o a b) (first o b a)
  half a b = first_before b a (first o a b) (first_right a b) (first_left a b)

  pub first_comm : (a b : ℤ) → first o a b ≡ first o b a
  first_comm a b = o.both (first o a b) (first o b a) (half a b) (half b a)

  pub first_assoc : (a b c : ℤ) → first o (first o a b) c ≡ first o a (first o b c)
  first_assoc a b c =
      let l : ℤ = first o (first o a b) c in
      let r : ℤ = first o a (first o b c) in
      let lab : R l (first o a b) = first_left (first o a b) c in
      let rbc : R r (first o b c) = first_right a (first o b c) in
      o.both l r
      (first_before a (first o b c) l (o.on l (first o a b) a lab (first_left a b))
      (first_before b c l (o.on l (first o a b) b lab (first_right a b)) (first_right (first o a b) c)))
      (first_before (first o a b) c r
      (first_before a b r (first_left a (first o b c)) (o.on r (first o b c) b rbc (first_left b c)))
      (o.on r (first o b c) c rbc (first_right b c)))

-- ---- the library's words for the two
pub min_smaller : (a b : ℤ) → int_min a b ≡ first rising a b
min_smaller a b = pick_elim (λ (z : ℤ). int_min a b ≡ z) (le? a b) (λ p. omega (arith, ints, clamps)) (λ n. let p = le_other a b n in omega (arith, ints, clamps))

pub max_larger : (a b : ℤ) → int_max a b ≡ first falling a b
max_larger a b = pick_elim (λ (z : ℤ). int_max a b ≡ z) (le? b a) (λ p. omega (arith, ints, clamps)) (λ n. let p = le_other b a n in omega (arith, ints, clamps))
