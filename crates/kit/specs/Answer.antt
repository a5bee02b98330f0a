-- An answer, and the tests that make one: each test is a decision, so it carries its own statement.
use Rattle.std.specs.Prelude.{◌≡◌, refl, ◌⊎◌, List, [], ◌∷◌, ℕ}
use Rattle.std.proofs.Common.{inl, inr, ⊎_elim, arith}
use Rattle.std.proofs.Math.Option.{Option, none, some}
use Rattle.std.proofs.Math.Decide.{ℕ_discrete}

-- what was asked for, or the reason why not
pub data Answer (W A : Type 0) : Type 0 where
  ok : A → Answer W A
  refused : W → Answer W A

module _ {W A : Type 0} where
  -- go on with x where the test passes
  unfoldable pub need : {P : Type 0} → Dec P → W → Answer W A → Answer W A
  need (yes p) w x = x
  need (no n) w x = refused w

module _ {W A B : Type 0} where
  -- go on with what was answered
  unfoldable pub bind : Answer W B → (B → Answer W A) → Answer W A
  bind (ok b) f = f b
  bind (refused w) f = refused w

  -- go on with what was found
  unfoldable pub get : Option B → W → (B → Answer W A) → Answer W A
  get (some b) w f = f b
  get none w f = refused w

  unfoldable pub amap : (B → A) → Answer W B → Answer W A
  amap f (ok b) = ok (f b)
  amap f (refused w) = refused w

-- ---- decisions
unfoldable pub ×_dec : {P Q : Type 0} → Dec P → Dec Q → Dec (P × Q)
×_dec (yes p) (yes q) = yes (p, q)
×_dec (yes p) (no n) = no (λ h. n h.1)
×_dec (no n) (yes q) = no (λ h. n h.0)
×_dec (no n) (no n') = no (λ h. n h.0)

unfoldable pub ⊎_dec : {P Q : Type 0} → Dec P → Dec Q → Dec (P ⊎ Q)
⊎_dec (yes p) q = yes (inl p)
⊎_dec (no n) (yes q) = yes (inr q)
⊎_dec (no n) (no n') = no (⊎_elim n n')

unfoldable pub ¬_dec : {P : Type 0} → Dec P → Dec (¬ P)
¬_dec (yes p) = no (λ n. n p)
¬_dec (no n) = yes n

-- one of two things, by a decision
unfoldable pub pick {ℓ} : {P : Type 0} {X : Type ℓ} → Dec P → X → X → X
pick (yes p) x y = x
pick (no n) x y = y

abbrev pub All : {A : Type 0} → (A → Type 0) → List A → Type 0
All P [] = Unit {0}
All P (x ∷ xs) = P x × All P xs

unfoldable pub all_dec : {A : Type 0} {P : A → Type 0} → ((x : A) → Dec (P x)) → (l : List A) → Dec (All P l)
unfolding ×_dec
all_dec d [] = yes tt
all_dec d (x ∷ xs) = ×_dec (d x) (all_dec d xs)

-- two lists are the same
unfoldable pub sames : {A : Type 0} → ((x y : A) → Dec (x ≡ y)) → (a b : List A) → Dec (a ≡ b)
sames d [] [] = yes refl
sames d [] (y ∷ ys) = no (λ e. let z : ◌≡◌ {A = ℕ} 0 1 = cc in omega arith)
sames d (x ∷ xs) [] = no (λ e. let z : ◌≡◌ {A = ℕ} 0 1 = cc in omega arith)
sames d (x ∷ xs) (y ∷ ys) = both (d x y) (sames d xs ys)
  where
    both : Dec (x ≡ y) → Dec (xs ≡ ys) → Dec (x ∷ xs ≡ y ∷ ys)
    both (yes p) (yes q) = yes (cc)
    both (yes p) (no n) = no (λ e. n (cc))
    both (no n) (yes q) = no (λ e. n (cc))
    both (no n) (no n') = no (λ e. n (cc))

unfoldable pub same : (a b : List ℕ) → Dec (a ≡ b)
same = sames ℕ_discrete
