-- Laws of Bools; what says that something holds, and what cannot be.
use mathlib.Core.Path.{◌≡◌, refl, subst}
use mathlib.Core.Bool.{Bool, true, false, ◌&&◌}
use Prim.Native.Nat.{ℕ}
use native.Mathlib.Omega.{arith}
use lib.Dec.{T}
use Rattle.kit.specs.Truth.{Says, truth, tested, Decided}
use mathlib.Core.Path.{sym}
use mathlib.Core.Bool.{◌||◌}
use mathlib.Core.Logic.{◌⊎◌, inl, inr}
use mathlib.Core.List.{List, [], ◌∷◌}
use Prim.Native.Nat.{zero, suc, ◌+◌, ◌≤◌, ◌<◌}
use native.Mathlib.Decide.{ℕ_discrete, dec_le, dec_lt}
use native.Mathlib.Numerals.{add-one}
use borrow.Author.Tests.{eqb-true, eqb-false, leb-true, leb-false, ltb-true, ltb-false}
use lib.Dec.{eqb, leb, ltb}
use lib.ListN.{length, get_or, drop, drop_of_length-le}
use lib.Seq.{drop-cons}
use Rattle.kit.specs.Answer.{×_dec, ⊎_dec, all_dec}

pub clash : {X : Type 0} → ◌≡◌ {A = ℕ} 0 1 → X
clash z = absurd (omega arith)

pub and_true : (x y : Bool) → (x && y) ≡ true → (x ≡ true) × (y ≡ true)
and_true true y e = (refl, e)
and_true false y e = (e, cc)

pub or_true : (x y : Bool) → (x || y) ≡ true → (x ≡ true) ⊎ (y ≡ true)
or_true true y e = inl refl
or_true false y e = inr e

pub and_assoc : (x y z : Bool) → (x && (y && z)) ≡ ((x && y) && z)
and_assoc true y z = refl
and_assoc false y z = refl

pub is_true : (b : Bool) → T b → b ≡ true
is_true true t = refl
is_true false t = absurd t

pub says_true : (P : Type 0) (b : Bool) → Says b P → b ≡ true → P
says_true P b d e = subst (λ t. Says t P) e d

pub says_false : (P : Type 0) (b : Bool) → Says b P → b ≡ false → ¬ P
says_false P b d e = subst (λ t. Says t P) e d

module _ {P : Type 0} where
  pub holds : (d : Dec P) → P → true ≡ truth d
  unfolding truth
  holds (yes p) q = refl
  holds (no n) q = absurd (n q)

  pub fails : (d : Dec P) → ¬ P → false ≡ truth d
  unfolding truth
  fails (yes p) q = absurd (q p)
  fails (no n) q = refl

  pub truth_true : (d : Dec P) → truth d ≡ true → P
  unfolding truth
  truth_true (yes p) e = p
  truth_true (no n) e = let z : ◌≡◌ {A = ℕ} 0 1 = cc in absurd (omega arith)

  pub truth_false : (d : Dec P) → truth d ≡ false → ¬ P
  unfolding truth
  truth_false (yes p) e = let z : ◌≡◌ {A = ℕ} 0 1 = cc in absurd (omega arith)
  truth_false (no n) e = n

  -- a Bool that says whether P holds
  pub tells : (b : Bool) (d : Dec P) → (b ≡ true → P) → (b ≡ false → ¬ P) → b ≡ truth d
  tells true d f g = holds d (f refl)
  tells false d f g = fails d (g refl)

pub truth_same : {P Q : Type 0} (d : Dec P) (e : Dec Q) → (P → Q) → (Q → P) → truth d ≡ truth e
unfolding truth
truth_same (yes p) e f g = holds e (f p)
truth_same (no n) e f g = fails e (λ q. n (g q))

-- ---- tests that code joins by `&` and `|`, and tests of naturals
pub both : {P Q : Type 0} (d : Dec P) (e : Dec Q) {a b : Bool} → a ≡ truth d → b ≡ truth e → (a && b) ≡ truth (×_dec d e)
unfolding truth ×_dec
both (yes p) (yes q) h k = rw (h, k) refl
both (yes p) (no n) h k = rw (h, k) refl
both (no n) (yes q) h k = rw h refl
both (no n) (no m) h k = rw h refl

pub either : {P Q : Type 0} (d : Dec P) (e : Dec Q) {a b : Bool} → a ≡ truth d → b ≡ truth e → (a || b) ≡ truth (⊎_dec d e)
unfolding truth ⊎_dec
either (yes p) e h k = rw h refl
either (no n) (yes q) h k = rw (h, k) refl
either (no n) (no m) h k = rw (h, k) refl

pub eq_tells : (m n : ℕ) → eqb m n ≡ truth (ℕ_discrete m n)
eq_tells m n = tells (eqb m n) (ℕ_discrete m n) (eqb-true m n) (eqb-false m n)

pub le_tells : (m n : ℕ) → leb m n ≡ truth (dec_le m n)
le_tells m n = tells (leb m n) (dec_le m n) (leb-true m n) (λ e h. omega (arith, leb-false m n e))

pub lt_tells : (m n : ℕ) → ltb m n ≡ truth (dec_lt m n)
lt_tells m n = tells (ltb m n) (dec_lt m n) (ltb-true m n) (λ e h. omega (arith, ltb-false m n e))

module _ {A : Type 0} (z : A) {P : A → Type 0} (d : (x : A) → Dec (P x)) (s : List A) (i : ℕ) where
  pub all_next : i < length s → P (get_or s i z) → truth (all_dec d (drop i s)) ≡ truth (all_dec d (drop (i + 1) s))
  all_next h p = rw (add-one, drop-cons s i z h) (truth_same (all_dec d (get_or s i z ∷ drop (suc i) s)) (all_dec d (drop (suc i) s)) (λ a. a.1) (λ a. (p, a)))

  pub all_stop : i < length s → ¬ P (get_or s i z) → truth (all_dec d (drop i s)) ≡ false
  all_stop h n = rw (drop-cons s i z h) (sym (fails (all_dec d (get_or s i z ∷ drop (suc i) s)) (λ a. n a.0)))

  pub all_end : length s ≤ i → truth (all_dec d (drop i s)) ≡ true
  all_end h = rw (drop_of_length-le s h) (sym (holds (all_dec d []) tt))

-- ---- tests that compute
pub and_left : (a b : Bool) → T (a && b) → T a
and_left true b t = tt
and_left false b t = t

pub and_right : (a b : Bool) → T (a && b) → T b
and_right true b t = t
and_right false b t = absurd t

pub tested_at : (f : ℕ → Bool) (n : ℕ) → T (tested f n) → (k : ℕ) → k < n → T (f k)
tested_at f zero t k h = absurd (omega arith)
tested_at f (suc n) t k h = by (ℕ_discrete k n) (λ l. tested_at f n (and_right (f n) (tested f n) t) k l)
  where
    by : Dec (k ≡ n) → (k < n → T (f k)) → T (f k)
    by (yes e) ih = rw e (and_left (f n) (tested f n) t)
    by (no e) ih = ih (omega arith)

-- ---- decisions that compute
pub truth_ok : {P : Type 0} (d : Dec P) → T (truth d) → P
unfolding truth
truth_ok (yes p) t = p
truth_ok (no n) t = absurd t

pub decided : {P : Type 0} (d : Dec P) → Decided d
decided (yes p) = p
decided (no n) = tt
