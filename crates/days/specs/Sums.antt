-- Sums of a function's first values, and the place of a number among them.
use Rattle.std.specs.Prelude.{◌≡◌, ℕ, zero, suc, ◌+◌, ◌<◌}

-- f 0 + .. + f (k - 1)
unfoldable pub sum : (ℕ → ℕ) → ℕ → ℕ
sum f zero = 0
sum f (suc k) = sum f k + f k

-- d is r past the sum of the first k, and r is below the next
pub record Place (f : ℕ → ℕ) (d k r : ℕ) : Type 0 where
  pub at : d ≡ sum f k + r
  pub less : r < f k
