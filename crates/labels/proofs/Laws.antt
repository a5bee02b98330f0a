-- Laws of a line's columns and of the search for a name. Assumes nothing.
use mathlib.Core.Path.{◌≡◌, refl, sym, ◌∙◌, ap}
use mathlib.Core.Bool.{Bool, true, false, ◌&&◌, cond}
use mathlib.Core.List.{List, [], ◌∷◌}
use Prim.Native.Nat.{ℕ, zero, suc, ◌+◌, ◌<◌, ◌≤◌}
use native.Mathlib.Nat.{add-suc}
use native.Mathlib.Numerals.{add-one}
use native.Mathlib.Omega.{arith}
use lib.Dec.{T, eqb}
use lib.ListN.{length, get_or, drop, drop_of_length-le}
use borrow.Author.Tests.{eq-eqb, ne_eqb, eqb-true}
use lib.Seq.{drop-cons}
use Rattle.kit.proofs.TruthLaws.{and_left, and_right, and_true, and_assoc}
use Rattle.layout.specs.Labels.{name}
use Rattle.layout.specs.Names.{holds, place_of, names, number_of}

-- one column more
holds_next : (s : List ℕ) (a : ℕ) (l : List ℕ) (j : ℕ) → j < length l → holds s (a + j) (drop j l) ≡ (eqb (get_or s (a + j) 32) (get_or l j 0) && holds s (a + (j + 1)) (drop (j + 1) l))
holds_next s a l j h = rw (drop-cons l j 0) (rw (add-one, add-suc))

pub place_of_next : (s : List ℕ) (a : ℕ) (ls : List (List ℕ)) (k : ℕ) → k < length ls → holds s a (get_or ls k []) ≡ false → place_of s a (drop k ls) ≡ suc (place_of s a (drop (k + 1) ls))
place_of_next s a ls k h e = rw (drop-cons ls k [], add-one) (rw (e, place_of))

pub place_of_here : (s : List ℕ) (a : ℕ) (ls : List (List ℕ)) (k : ℕ) → k < length ls → holds s a (get_or ls k []) ≡ true → place_of s a (drop k ls) ≡ 0
place_of_here s a ls k h e = rw (drop-cons ls k []) (rw (e, place_of))

-- a loop's turn: another byte, and the same byte
pub holds_other : (s : List ℕ) (a : ℕ) (l : List ℕ) (j b : ℕ) → j < length l → holds s (a + j) (drop j l) ≡ holds s a l → b ≡ get_or s (a + j) 32 → (b ≡ get_or l j 0 → ⊥) → false ≡ holds s a l
holds_other s a l j b h i e ne = rw (holds_next s a l j h, ne_eqb _ _ (λ (q : get_or s (a + j) 32 ≡ get_or l j 0). ne (e ∙ q))) at i

pub holds_same : (s : List ℕ) (a : ℕ) (l : List ℕ) (j b : ℕ) → j < length l → holds s (a + j) (drop j l) ≡ holds s a l → b ≡ get_or s (a + j) 32 → b ≡ get_or l j 0 → holds s (a + (j + 1)) (drop (j + 1) l) ≡ holds s a l
holds_same s a l j b h i e q = rw (holds_next s a l j h, eq-eqb _ _ (sym e ∙ q)) at i

pub holds_end : (s : List ℕ) (a : ℕ) (l : List ℕ) (j : ℕ) → length l ≤ j → holds s (a + j) (drop j l) ≡ holds s a l → true ≡ holds s a l
holds_end s a l j h i = rw (drop_of_length-le l h) at i

-- ---- a byte at a time, with no branch

and_true_right : (x : Bool) → (x && true) ≡ x
and_true_right true = refl
and_true_right false = refl

and_false : (x : Bool) → (x && false) ≡ false
and_false true = refl
and_false false = refl

pub whole_next : (s : List ℕ) (l : List ℕ) (j : ℕ) (ok : Bool) → j < length l → 60 + j < length s → holds s 60 l ≡ (ok && holds s (60 + j) (drop j l))
    → holds s 60 l ≡ ((ok && eqb (get_or s (60 + j) 0) (get_or l j 0)) && holds s (60 + (j + 1)) (drop (j + 1) l))
whole_next s l j ok h g i =
    i ∙ ap (λ x. ok && x) (holds_next s 60 l j h) ∙ and_assoc ok (eqb (get_or s (60 + j) 32) (get_or l j 0)) (holds s (60 + (j + 1)) (drop (j + 1) l)) ∙ rw (same_there s (60 + j) g)
  where
    same_there : (s : List ℕ) (i : ℕ) → i < length s → get_or s i 32 ≡ get_or s i 0
    same_there [] i h = absurd (omega arith)
    same_there (b ∷ s) zero h = refl
    same_there (b ∷ s) (suc i) h = same_there s i (omega arith)

pub whole_end : (s : List ℕ) (l : List ℕ) (j : ℕ) (ok : Bool) → length l ≤ j → holds s 60 l ≡ (ok && holds s (60 + j) (drop j l)) → ok ≡ holds s 60 l
whole_end s l j ok h i = sym (i ∙ rw (drop_of_length-le l h) (and_true_right ok))

-- ---- a label that is found is the only one: the table's labels differ

abbrev clashes : List ℕ → List ℕ → Bool
clashes [] ys = false
clashes (x ∷ xs) [] = false
clashes (x ∷ xs) (y ∷ ys) = cond (eqb x y) (clashes xs ys) true

holds_clash : (s : List ℕ) (a : ℕ) (xs ys : List ℕ) → holds s a xs ≡ true → T (clashes xs ys) → holds s a ys ≡ false
holds_clash s a [] ys e t = absurd t
holds_clash s a (x ∷ xs) [] e t = absurd t
holds_clash s a (x ∷ xs) (y ∷ ys) e t = by (eqb x y) refl t (holds_clash s (suc a) xs ys r.1)
  where
    r : (eqb (get_or s a 32) x ≡ true) × (holds s (suc a) xs ≡ true)
    r = and_true (eqb (get_or s a 32) x) (holds s (suc a) xs) e

    by : (q : Bool) → eqb x y ≡ q → T (cond q (clashes xs ys) true) → (T (clashes xs ys) → holds s (suc a) ys ≡ false) → (eqb (get_or s a 32) y && holds s (suc a) ys) ≡ false
    by true p t f = rw (f t) (and_false (eqb (get_or s a 32) y))
    by false p t f = let g : get_or s a 32 ≡ x = eqb-true (get_or s a 32) x r.0 in rw (g, p)

abbrev alone : ℕ → List (List ℕ) → List ℕ → Bool
alone zero ls n = true
alone (suc k) [] n = true
alone (suc k) (l ∷ ls) n = clashes n l && alone k ls n

place_alone : (s : List ℕ) (a : ℕ) (n : List ℕ) → holds s a n ≡ true → (ls : List (List ℕ)) (k : ℕ) → k < length ls → get_or ls k [] ≡ n → T (alone k ls n) → place_of s a ls ≡ k
place_alone s a n e [] k h g t = absurd (omega arith)
place_alone s a n e (l ∷ ls) zero h g t = let q : holds s a l ≡ true = rw g e in rw (q, place_of)
place_alone s a n e (l ∷ ls) (suc k) h g t =
    let q : holds s a l ≡ false = holds_clash s a n l e (and_left (clashes n l) (alone k ls n) t) in
    rw (q, place_of) (ap suc (place_alone s a n e ls k (omega arith) g (and_right (clashes n l) (alone k ls n) t)))

pub opens_block : (s : List ℕ) → holds s 60 (get_or names 30 []) ≡ true → 30 ≡ number_of s
unfolding names name number_of
opens_block s e = sym (place_alone s 60 (get_or names 30 []) e names 30 (omega arith) refl tt)

pub says_comment : (s : List ℕ) → holds s 60 (get_or names 3 []) ≡ true → 3 ≡ number_of s
unfolding names name number_of
says_comment s e = sym (place_alone s 60 (get_or names 3 []) e names 3 (omega arith) refl tt)

pub says_exponent : (s : List ℕ) → holds s 60 (get_or names 19 []) ≡ true → 19 ≡ number_of s
unfolding names name number_of
says_exponent s e = sym (place_alone s 60 (get_or names 19 []) e names 19 (omega arith) refl tt)
