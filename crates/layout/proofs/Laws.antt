-- Laws of a list of names, and of the labels. Assumes nothing.
use mathlib.Core.Path.{◌≡◌}
use mathlib.Core.Bool.{Bool, true, ◌&&◌}
use mathlib.Core.List.{List, [], ◌∷◌}
use Prim.Native.Nat.{ℕ, zero, suc, ◌<◌}
use native.Mathlib.Nat.{le_of_suc-le-suc, not-suc-le-zero}
use lib.Dec.{T, eqb, eqb→eq}
use lib.ListN.{length, get_or}
use Rattle.kit.proofs.TruthLaws.{and_left, and_right}
use Rattle.layout.specs.Labels.{name, codes}
use Rattle.layout.specs.Names.{names}

-- what a test says of each list of a table, it says of the one at k
abbrev pub every : (List ℕ → Bool) → List (List ℕ) → Bool
every f [] = true
every f (l ∷ ls) = f l && every f ls

every_at : (f : List ℕ → Bool) (ls : List (List ℕ)) → T (every f ls) → (k : ℕ) → k < length ls → T (f (get_or ls k []))
every_at f [] t k h = absurd (not-suc-le-zero h)
every_at f (l ∷ ls) t zero h = and_left (f l) (every f ls) t
every_at f (l ∷ ls) t (suc k) h = every_at f ls (and_right (f l) (every f ls) t) k (le_of_suc-le-suc h)

-- each label has 20 bytes
pub label_length : (k : ℕ) → k < 32 → length (get_or names k []) ≡ 20
unfolding names name
label_length k h = eqb→eq _ _ (every_at (λ (l : List ℕ). eqb (length l) 20) names tt k h)

-- each code has 3
pub code_length : (k : ℕ) → k < 11 → length (get_or codes k []) ≡ 3
code_length k h = eqb→eq _ _ (every_at (λ (l : List ℕ). eqb (length l) 3) codes tt k h)
