-- The exact fraction s / d rounded once: to the nearest whole number, halves away from zero.
use Rattle.std.specs.Prelude.{◌≡◌, ℕ, ◌*◌, ◌≤◌, ◌<◌, ℤ, pos, nat_abs, ◌-ℤ◌, ◌*ℤ◌}

-- d times the distance of r from s / d
unfoldable pub apart : ℤ → ℕ → ℤ → ℕ
apart s d r = nat_abs (pos d *ℤ r -ℤ s)

-- r is at most one half from s / d, and where it is just one half, it is the one further from zero
pub record Nearest (s : ℤ) (d : ℕ) (r : ℤ) : Type 0 where
  pub near : 2 * apart s d r ≤ d
  pub away : 2 * apart s d r ≡ d → nat_abs s < d * nat_abs r
