-- `Nearest` of Round, computed.
use Rattle.std.specs.Prelude.{ℕ, suc, ◌+◌, ◌*◌, ◌/◌, ℤ, pos, negsuc, neg_ℤ}

abbrev pub round_abs : ℕ → ℕ → ℕ
round_abs m d = (2 * m + d) / (2 * d)

unfoldable pub rounded : ℤ → ℕ → ℤ
rounded (pos m) d = pos (round_abs m d)
rounded (negsuc m) d = neg_ℤ (pos (round_abs (suc m) d))
