-- The lesser of two is their minimum, and at most each of them.
use mathlib.Core.Path.{◌≡◌}
use Prim.Native.Nat.{ℕ, ◌≤◌, ◌<◌, min}
use native.Mathlib.Decide.{dec_lt}
use native.Mathlib.Omega.{arith}
use Rattle.kit.specs.Answer.{pick}
use Rattle.kit.specs.Range.{lesser}
use Rattle.kit.proofs.AnswerLaws.{pick_elim}

pub lesser_is : (a b : ℕ) → lesser a b ≡ min a b
unfolding lesser
lesser_is a b = pick_elim (λ (m : ℕ). m ≡ min a b) (dec_lt a b) (λ h. omega arith) (λ n. omega arith)

pub lesser_within : (a b : ℕ) → (lesser a b ≤ a) × (lesser a b ≤ b)
unfolding lesser pick
lesser_within a b = by (dec_lt a b)
  where
    by : (d : Dec (a < b)) → (pick d a b ≤ a) × (pick d a b ≤ b)
    by (yes h) = (omega arith, omega arith)
    by (no h) = (omega arith, omega arith)
