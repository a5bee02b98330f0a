-- Lists.
use Rattle.std.specs.Prelude.{List, [], ◌∷◌, ◌++◌, ℕ, zero, suc, take, drop}

-- lists one after the other
abbrev pub flat : {A : Type 0} → List (List A) → List A
flat [] = []
flat (x ∷ xs) = x ++ flat xs

-- f of i, of i + 1, and so on, k of them
abbrev pub tab : {A : Type 0} → (i k : ℕ) → (ℕ → A) → List A
tab i zero f = []
tab i (suc k) f = f i ∷ tab (suc i) k f

-- k parts of c elements each
abbrev pub chop : {A : Type 0} → (k c : ℕ) → List A → List (List A)
chop zero c l = []
chop (suc k) c l = take c l ∷ chop k c (drop c l)

-- two lists side by side
abbrev pub zipw : {A B C : Type 0} → (A → B → C) → List A → List B → List C
zipw f (x ∷ xs) (y ∷ ys) = f x y ∷ zipw f xs ys
zipw f (x ∷ xs) [] = []
zipw f [] ys = []
