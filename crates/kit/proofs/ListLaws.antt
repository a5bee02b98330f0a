-- What holds of all elements of a list, and of each number below another; parts of a list.
use mathlib.Core.Path.{◌≡◌, sym, ap, ◌∙◌}
use mathlib.Core.List.{List, [], ◌∷◌, ◌++◌, map}
use Prim.Native.Nat.{ℕ, zero, suc, ◌-◌, ◌<◌}
use native.Mathlib.Omega.{arith}
use native.Mathlib.Decide.{ℕ_discrete}
use lib.ListN.{length, get_or, take, drop, replicate, length-drop}
use lib.Seq.{take_all, take-nil}
use Rattle.kit.specs.Answer.{All}
use Rattle.kit.specs.Lists.{Upto}

module _ {A : Type 0} (P : A → Type 0) where
  pub all_append : (a b : List A) → All P a → All P b → All P (a ++ b)
  all_append [] b p q = q
  all_append (x ∷ a) b p q = (p.0, all_append a b p.1 q)

  pub all_front : (a b : List A) → All P (a ++ b) → All P a
  all_front [] b p = tt
  all_front (x ∷ a) b p = (p.0, all_front a b p.1)

  pub all_behind : (a b : List A) → All P (a ++ b) → All P b
  all_behind [] b p = p
  all_behind (x ∷ a) b p = all_behind a b p.1

  pub all_at : (l : List A) (i : ℕ) (d : A) → All P l → P d → P (get_or l i d)
  all_at [] i d a p = p
  all_at (x ∷ l) zero d a p = a.0
  all_at (x ∷ l) (suc i) d a p = all_at l i d a.1 p

  pub all_in : (l : List A) (i : ℕ) (d : A) → i < length l → All P l → P (get_or l i d)
  all_in [] i d h a = absurd (omega arith)
  all_in (x ∷ l) zero d h a = a.0
  all_in (x ∷ l) (suc i) d h a = all_in l i d (omega arith) a.1

  pub all_take : (k : ℕ) (l : List A) → All P l → All P (take k l)
  all_take zero l p = tt
  all_take (suc k) [] p = tt
  all_take (suc k) (x ∷ l) p = (p.0, all_take k l p.1)

  pub all_drop : (k : ℕ) (l : List A) → All P l → All P (drop k l)
  all_drop zero l p = p
  all_drop (suc k) [] p = tt
  all_drop (suc k) (x ∷ l) p = all_drop k l p.1

  pub all_turn : (Q : A → Type 0) (l : List A) → ((x : A) → P x → Q x) → All P l → All Q l
  all_turn Q [] f p = tt
  all_turn Q (x ∷ l) f p = (f x p.0, all_turn Q l f p.1)

  pub all_both : (Q : A → Type 0) (l : List A) → All P l → All Q l → All (λ x. P x × Q x) l
  all_both Q [] p q = tt
  all_both Q (x ∷ l) p q = ((p.0, q.0), all_both Q l p.1 q.1)

  pub all_map : {B : Type 0} (f : B → A) (l : List B) → All (λ x. P (f x)) l → All P (map f l)
  all_map f [] p = tt
  all_map f (x ∷ l) p = (p.0, all_map f l p.1)

pub all_replicate : {A : Type 0} (P : A → Type 0) (v : A) → P v → (k : ℕ) → All P (replicate k v)
all_replicate P v h zero = tt
all_replicate P v h (suc k) = (h, all_replicate P v h k)

pub below : (P : ℕ → Type 0) (n : ℕ) → Upto P n → (i : ℕ) → i < n → P i
below P zero u i h = absurd (omega arith)
below P (suc n) u i h = by (ℕ_discrete i n) (below P n u.1 i)
  where
    by : Dec (i ≡ n) → (i < n → P i) → P i
    by (yes e) f = rw e u.0
    by (no k) f = f (omega arith)

-- ---- parts
module _ {A : Type 0} where
  -- from a place to the end
  pub rest_of : (l : List A) (at : ℕ) → take (length l - at) (drop at l) ≡ drop at l
  rest_of l at = take_all (length l - at) (drop at l) (rw length-drop (omega arith))

  pub drop_take : (k n : ℕ) (l : List A) → drop k (take n l) ≡ take (n - k) (drop k l)
  drop_take zero n l = let e : n - 0 ≡ n = omega arith in ap (λ j. take j l) (sym e)
  drop_take (suc k) zero l = let e : 0 - suc k ≡ 0 = omega arith in ap (λ j. take j (drop (suc k) l)) (sym e)
  drop_take (suc k) (suc n) [] = sym (take-nil (suc n - suc k))
  drop_take (suc k) (suc n) (x ∷ l) = let e : suc n - suc k ≡ n - k = omega arith in drop_take k n l ∙ ap (λ j. take j (drop k l)) (sym e)
