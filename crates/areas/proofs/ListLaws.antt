-- Laws of lists.
use mathlib.Core.Path.{◌≡◌, refl, sym, ap, ◌∙◌}
use Prim.Native.Nat.{ℕ, zero, suc, ◌+◌, ◌*◌, ◌≤◌, ◌<◌}
use native.Mathlib.Omega.{arith}
use native.Mathlib.Decide.{ℕ_discrete}
use native.Mathlib.Nat.{suc-mul, zero-mul}
use mathlib.Core.List.{List, [], ◌∷◌, ◌++◌, map, append_assoc}
use lib.ListN.{length, replicate, take, drop, length-append, length-drop, take-append-drop, length-replicate}
use lib.Seq.{take_at, drop_at, length-take-le}
use Rattle.kit.proofs.ListLaws.{all_append, all_take, all_drop}
use Rattle.kit.specs.Answer.{All}
use Rattle.areas.specs.Lists.{flat, chop, tab, zipw}
use Rattle.areas.specs.Stores.{fill}

-- ---- All

module _ {A : Type 0} (P : A → Type 0) where
  pub all_chop : (k c : ℕ) (l : List A) → All P l → All (All P) (chop k c l)
  all_chop zero c l p = tt
  all_chop (suc k) c l p = (all_take P c l p, all_chop k c (drop c l) (all_drop P c l p))

  pub all_flat : (ls : List (List A)) → All (All P) ls → All P (flat ls)
  all_flat [] p = tt
  all_flat (l ∷ ls) p = all_append P l (flat ls) p.0 (all_flat ls p.1)

-- ---- flat and chop

module _ {A : Type 0} (c : ℕ) where
  pub flat_length : (ls : List (List A)) → All (λ l. length l ≡ c) ls → length (flat ls) ≡ length ls * c
  flat_length [] p = sym (zero-mul c)
  flat_length (l ∷ ls) p = length-append l (flat ls) ∙ omega (arith, p.0, flat_length ls p.1, suc-mul (length ls) c)

  pub chop_flat : (k : ℕ) (ls : List (List A)) → length ls ≡ k → All (λ l. length l ≡ c) ls → chop k c (flat ls) ≡ ls
  chop_flat zero [] e p = refl
  chop_flat zero (l ∷ ls) e p = absurd (omega arith)
  chop_flat (suc k) [] e p = absurd (omega arith)
  chop_flat (suc k) (l ∷ ls) e p = rw (take_at l (flat ls) c p.0, drop_at l (flat ls) c p.0) (ap (λ r. l ∷ r) (chop_flat k ls (omega arith) p.1))

  pub flat_chop : (k : ℕ) (l : List A) → length l ≡ k * c → flat (chop k c l) ≡ l
  flat_chop zero [] e = refl
  flat_chop zero (x ∷ l) e = absurd (omega (arith, zero-mul c))
  flat_chop (suc k) l e = ap (λ r. take c l ++ r) (flat_chop k (drop c l) (length-drop c l ∙ omega (arith, suc-mul k c))) ∙ take-append-drop c l

  pub chop_length : (k : ℕ) (l : List A) → length (chop k c l) ≡ k
  chop_length zero l = refl
  chop_length (suc k) l = ap suc (chop_length k (drop c l))

  pub chop_all : (k : ℕ) (l : List A) → length l ≡ k * c → All (λ x. length x ≡ c) (chop k c l)
  chop_all zero l e = tt
  chop_all (suc k) l e =
      let h : c ≤ length l = omega (arith, suc-mul k c) in
      (length-take-le c l h, chop_all k (drop c l) (length-drop c l ∙ omega (arith, suc-mul k c)))

-- ---- zipw

module _ {A B C : Type 0} (f : A → B → C) where
  pub zip_length : (a : List A) (b : List B) → length a ≡ length b → length (zipw f a b) ≡ length a
  zip_length [] b e = refl
  zip_length (x ∷ a) [] e = absurd (omega arith)
  zip_length (x ∷ a) (y ∷ b) e = ap suc (zip_length a b (omega arith))

  pub zip_left : (g : C → A) → ((x : A) (y : B) → g (f x y) ≡ x) → (a : List A) (b : List B) → length a ≡ length b → map g (zipw f a b) ≡ a
  zip_left g h [] b e = refl
  zip_left g h (x ∷ a) [] e = absurd (omega arith)
  zip_left g h (x ∷ a) (y ∷ b) e = rw (h x y) (ap (λ r. x ∷ r) (zip_left g h a b (omega arith)))

  pub zip_right : (g : C → B) → ((x : A) (y : B) → g (f x y) ≡ y) → (a : List A) (b : List B) → length a ≡ length b → map g (zipw f a b) ≡ b
  zip_right g h [] [] e = refl
  zip_right g h [] (y ∷ b) e = absurd (omega arith)
  zip_right g h (x ∷ a) [] e = absurd (omega arith)
  zip_right g h (x ∷ a) (y ∷ b) e = rw (h x y) (ap (λ r. y ∷ r) (zip_right g h a b (omega arith)))

  pub zip_back : (g : C → A) (k : C → B) → ((x : C) → f (g x) (k x) ≡ x) → (l : List C) → zipw f (map g l) (map k l) ≡ l
  zip_back g k h [] = refl
  zip_back g k h (x ∷ l) = rw (h x) (ap (λ r. x ∷ r) (zip_back g k h l))

  pub zip_alls : (P : A → Type 0) (Q : B → Type 0) (R : C → Type 0) → ((x : A) (y : B) → P x → Q y → R (f x y)) → (a : List A) (b : List B) → All P a → All Q b → All R (zipw f a b)
  zip_alls P Q R h [] b p q = tt
  zip_alls P Q R h (x ∷ a) [] p q = tt
  zip_alls P Q R h (x ∷ a) (y ∷ b) p q = (h x y p.0 q.0, zip_alls P Q R h a b p.1 q.1)

  pub zip_all : (P : B → Type 0) (Q : C → Type 0) → ((x : A) (y : B) → P y → Q (f x y)) → (a : List A) (b : List B) → All P b → All Q (zipw f a b)
  zip_all P Q h [] b p = tt
  zip_all P Q h (x ∷ a) [] p = tt
  zip_all P Q h (x ∷ a) (y ∷ b) p = (h x y p.0, zip_all P Q h a b p.1)

-- ---- tab

module _ {A : Type 0} where
  pub tab_length : (i k : ℕ) (f : ℕ → A) → length (tab i k f) ≡ k
  tab_length i zero f = refl
  tab_length i (suc k) f = ap suc (tab_length (suc i) k f)

  pub tab_ext : (i k : ℕ) (f g : ℕ → A) → ((j : ℕ) → i ≤ j → f j ≡ g j) → tab i k f ≡ tab i k g
  tab_ext i zero f g h = refl
  tab_ext i (suc k) f g h = rw (h i (omega arith)) (ap (λ r. g i ∷ r) (tab_ext (suc i) k f g (λ j le. h j (omega arith))))

  pub tab_all : (P : A → Type 0) (i k : ℕ) (f : ℕ → A) → ((j : ℕ) → P (f j)) → All P (tab i k f)
  tab_all P i zero f h = tt
  tab_all P i (suc k) f h = (h i, tab_all P (suc i) k f h)

  pub all_tab : (P : A → Type 0) (i k : ℕ) (f : ℕ → A) → All P (tab i k f) → (j : ℕ) → i ≤ j → j < i + k → P (f j)
  all_tab P i zero f a j l h = absurd (omega arith)
  all_tab P i (suc k) f a j l h = go (ℕ_discrete i j) (all_tab P (suc i) k f a.1 j)
    where
      go : Dec (i ≡ j) → (suc i ≤ j → j < suc i + k → P (f j)) → P (f j)
      go (yes e) ih = rw (← e) a.0
      go (no e) ih = ih (omega arith) (omega arith)

pub flat_append : {A : Type 0} (a b : List (List A)) → flat (a ++ b) ≡ flat a ++ flat b
flat_append [] b = refl
flat_append (x ∷ a) b = ap (λ r. x ++ r) (flat_append a b) ∙ sym (append_assoc x (flat a) (flat b))

pub map_append : {A B : Type 0} (f : A → B) (a b : List A) → map f (a ++ b) ≡ map f a ++ map f b
map_append f [] b = refl
map_append f (x ∷ a) b = ap (λ r. f x ∷ r) (map_append f a b)

-- ---- fill

pub fill_length : {A : Type 0} (v : A) (k : ℕ) (l : List A) → k ≤ length l → length (fill v k l) ≡ length l
fill_length v k l h = length-append (replicate k v) (drop k l) ∙ omega (arith, length-replicate k v, length-drop k l)
