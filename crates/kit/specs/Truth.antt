-- A decision as the Bool that code answers.
use Rattle.std.specs.Prelude.{Bool, true, false, ◌&&◌, ℕ, zero, suc}

unfoldable pub truth : {P : Type 0} → Dec P → Bool
truth (yes p) = true
truth (no n) = false

-- what a Bool says of P
abbrev pub Says : Bool → Type 0 → Type 0
Says true P = P
Says false P = ¬ P

-- two statements that follow from each other
unfoldable pub dec_by : {P Q : Type 0} → (P → Q) → (Q → P) → Dec P → Dec Q
dec_by f g (yes p) = yes (f p)
dec_by f g (no n) = no (λ q. n (g q))

-- ---- all of a list, from an index on

-- f tests each number below n
abbrev pub tested : (ℕ → Bool) → ℕ → Bool
tested f zero = true
tested f (suc n) = f n && tested f n

-- what a decision that computes to yes has decided
abbrev pub Decided : {P : Type 0} → Dec P → Type 0
Decided {P} (yes p) = P
Decided {P} (no n) = Unit {0}
