-- Bytes added one after the other.
use mathlib.Core.Path.{◌≡◌, refl, ap, subst, ◌∙◌}
use mathlib.Core.List.{List, [], ◌++◌, append_assoc, append-nil}
use Prim.Native.Nat.{ℕ, ◌+◌, ◌≤◌}
use native.Mathlib.Omega.{arith}
use lib.ListN.{length, take, drop, length-append, length-drop}
use lib.Seq.{length-take-le, take_at}
use Rattle.program_line.specs.Lines.{Begins, Adds}

-- put where there is room
pub adds_put : (o : List ℕ) (at : ℕ) (x : List ℕ) → at + length x ≤ length o → Adds o at x (take at o ++ (x ++ drop (at + length x) o)) (at + length x)
adds_put o at x h =
    let n : length (take at o) ≡ at = length-take-le at o (omega arith) in
    let k : length (take at o ++ x) ≡ at + length x = length-append (take at o) x ∙ omega arith in
    record {
      moved = refl;
      size = simp (length-append, length-drop) (omega arith);
      front = rw (← append_assoc (take at o) x (drop (at + length x) o)) (take_at (take at o ++ x) (drop (at + length x) o) (at + length x) k);
    }

-- and then more
pub then : {o o₁ o₂ x y : List ℕ} {at r s : ℕ} → Adds o at x o₁ r → Adds o₁ r y o₂ s → Adds o at (x ++ y) o₂ s
then {o} {o₁} {o₂} {x} {y} {at} p q =
    record {
      moved = q.moved ∙ omega (arith, p.moved, length-append x y);
      size = q.size ∙ p.size;
      front = q.front ∙ ap (λ (l : List ℕ). l ++ y) p.front ∙ append_assoc (take at o) x y;
    }

-- a word and a number, and then more
pub pair_then : {o o₁ o₂ z : List ℕ} {at r s : ℕ} (x y : List ℕ) → Adds o at (x ++ y) o₁ r → Adds o₁ r z o₂ s → Adds o at (x ++ (y ++ z)) o₂ s
pair_then {o} {o₁} {o₂} {z} {at} {r} {s} x y p q = subst (λ (l : List ℕ). Adds o at l o₂ s) (append_assoc x y z) (then p q)

-- and no more
pub last : {o o₁ x : List ℕ} {at r : ℕ} → Adds o at x o₁ r → Adds o at (x ++ []) o₁ r
last {o} {o₁} {x} {at} p = rw (append-nil x) p

-- all of it
pub begins : {o o₁ x : List ℕ} {r : ℕ} → Adds o 0 x o₁ r → r ≤ length o → Begins o₁ r x
begins p h = record { within = omega (arith, p.size); front = p.front }
