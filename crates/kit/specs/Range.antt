-- Ranges of naturals, and the lesser of two.
use Rattle.std.specs.Prelude.{List, ℕ, ◌≤◌, ℤ, pos, negsuc}
use Rattle.std.proofs.Math.Decide.{dec_le, dec_lt}
use Rattle.kit.specs.Answer.{×_dec, All, pick}

-- x is from low to high
abbrev pub Within : ℕ → ℕ → ℕ → Type 0
Within low high x = (low ≤ x) × (x ≤ high)

unfoldable pub within? : (low high x : ℕ) → Dec (Within low high x)
within? low high x = ×_dec (dec_le low x) (dec_le x high)

unfoldable pub lesser : ℕ → ℕ → ℕ
lesser a b = pick (dec_lt a b) a b

-- each byte from 32 to 126
abbrev pub Printable : List ℕ → Type 0
Printable l = All (Within 32 126) l

-- an integer that is a natural from low to high
abbrev pub Natural : ℕ → ℕ → ℤ → Type 0
Natural low high (pos n) = Within low high n
Natural low high (negsuc n) = ⊥

unfoldable pub natural? : (low high : ℕ) (z : ℤ) → Dec (Natural low high z)
natural? low high (pos n) = within? low high n
natural? low high (negsuc n) = no (λ h. h)
