-- How many bytes pass, as a loop goes over them, and what that number says.
use mathlib.Core.Path.{◌≡◌, refl, sym, ap, ◌∙◌}
use mathlib.Core.List.{List, [], ◌∷◌, ◌++◌}
use mathlib.Core.Bool.{Bool, cond, not, ◌&&◌, true, false}
use Prim.Native.Nat.{ℕ, zero, suc, ◌+◌, ◌≤◌, ◌<◌}
use native.Mathlib.Numerals.{add-one}
use native.Mathlib.Omega.{arith}
use native.Mathlib.Decide.{ℕ_discrete, dec_le}
use lib.Dec.{eqb, leb}
use borrow.Author.Tests.{eq-eqb, ne_eqb}
use lib.ListN.{length, get_or, take, drop, drop_of_length-le}
use lib.Seq.{drop-cons}
use Rattle.kit.proofs.AnswerLaws.{pick_yes, pick_no, pick_elim}
use Rattle.kit.specs.Answer.{All, pick}
use Rattle.kit.specs.Range.{within?}
use Rattle.kit.specs.Truth.{truth}
use Rattle.kit.proofs.TruthLaws.{holds, fails, le_tells, both}
use Rattle.std.specs.List.{prefix_len}
use Rattle.read_lines.specs.Lines.{passing, not_lf?, printable?}

module _ {P : ℕ → Type 0} (d : (b : ℕ) → Dec (P b)) where
  one : (b : ℕ) (l : List ℕ) → P b → passing d (b ∷ l) ≡ suc (passing d l)
  unfolding passing
  one b l p = pick_yes (d b) _ _ p

  none : (b : ℕ) (l : List ℕ) → ¬ P b → passing d (b ∷ l) ≡ 0
  unfolding passing
  none b l p = pick_no (d b) _ _ p

  -- as a test of the code counts them
  counted : (p : ℕ → Bool) → ((b : ℕ) → p b ≡ truth (d b)) → (l : List ℕ) → prefix_len p l ≡ passing d l
  unfolding passing truth pick
  counted p same [] = refl
  counted p same (b ∷ l) = ap (λ x. cond x (1 + prefix_len p l) 0) (same b) ∙ by (d b) (counted p same l)
    where
      by : (q : Dec (P b)) → prefix_len p l ≡ passing d l → cond (truth q) (1 + prefix_len p l) 0 ≡ pick q (suc (passing d l)) 0
      by (yes h) e = omega arith
      by (no n) e = refl

  -- the loop: so many are passed, and so many pass from here
  module _ (l : List ℕ) (i : ℕ) (inv : passing d l ≡ i + passing d (drop i l)) where
    pub passing_step : i < length l → P (get_or l i 0) → passing d l ≡ i + 1 + passing d (drop (i + 1) l)
    passing_step h p =
        let e : passing d (drop i l) ≡ suc (passing d (drop (i + 1) l)) = rw (add-one, drop-cons l i 0 h) (one _ _ p) in
        omega arith

    pub passing_stop : i < length l → ¬ P (get_or l i 0) → i ≡ passing d l
    passing_stop h p =
        let e : passing d (drop i l) ≡ 0 = rw (drop-cons l i 0 h) (none _ _ p) in
        omega arith

    pub passing_end : length l ≤ i → i ≡ passing d l
    passing_end h =
        let e : passing d (drop i l) ≡ 0 = rw (drop_of_length-le l h) (unfold passing in refl) in
        omega arith

  -- what the number says
  pub passing_le : (l : List ℕ) → passing d l ≤ length l
  unfolding passing
  passing_le [] = omega arith
  passing_le (b ∷ l) =
      pick_elim (λ k. k ≤ suc (length l)) (d b) (λ _. let h = passing_le l in omega arith) (λ _. omega arith)

  pub passing_all : (l : List ℕ) → All P (take (passing d l) l)
  unfolding passing
  passing_all [] = tt
  passing_all (b ∷ l) = pick_elim (λ k. All P (take k (b ∷ l))) (d b) (λ p. (p, passing_all l)) (λ _. tt)

  pub passing_next : (l : List ℕ) → passing d l < length l → ¬ P (get_or l (passing d l) 0)
  unfolding passing
  passing_next [] h = absurd (omega arith)
  passing_next (b ∷ l) h =
      pick_elim (λ k. k < suc (length l) → ¬ P (get_or (b ∷ l) k 0)) (d b) (λ p h. passing_next l (omega arith)) (λ n h. n) h

  pub passing_whole : (l : List ℕ) → length l ≤ passing d l → All P l
  unfolding passing
  passing_whole [] h = tt
  passing_whole (b ∷ l) h =
      pick_elim (λ k. suc (length l) ≤ k → All P (b ∷ l)) (d b) (λ p h. (p, passing_whole l (omega arith))) (λ n h. absurd (omega arith)) h

  pub passing_not : (l : List ℕ) → passing d l < length l → ¬ All P l
  unfolding passing
  passing_not [] h a = omega arith
  passing_not (b ∷ l) h a =
      pick_elim (λ k. k < suc (length l) → ⊥) (d b) (λ p h. passing_not l (omega arith) a.1) (λ n h. n a.0) h

  pub passing_append : (x y : List ℕ) → passing d x < length x → passing d (x ++ y) ≡ passing d x
  passing_append [] y h = absurd (omega arith)
  passing_append (b ∷ x) y h = by (d b) (passing_append x y)
    where
      by : Dec (P b) → (passing d x < length x → passing d (x ++ y) ≡ passing d x) → passing d (b ∷ x ++ y) ≡ passing d (b ∷ x)
      by (yes p) f = let e = one b x p in one b (x ++ y) p ∙ ap suc (f (omega arith)) ∙ sym e
      by (no n) f = none b (x ++ y) n ∙ sym (none b x n)

  -- where all of the first k pass, the rest decides
  pub passing_skip : (k : ℕ) (l : List ℕ) → passing d (take k l) ≡ k → passing d l ≡ k + passing d (drop k l)
  passing_skip zero l e = omega arith
  passing_skip (suc k) [] e = let z : passing d [] ≡ 0 = unfold passing in refl in absurd (omega arith)
  passing_skip (suc k) (b ∷ l) e = by (d b) (passing_skip k l)
    where
      by : Dec (P b) → (passing d (take k l) ≡ k → passing d l ≡ k + passing d (drop k l)) → passing d (b ∷ l) ≡ suc k + passing d (drop k l)
      by (yes p) f =
          let u = one b (take k l) p in
          let v = one b l p in
          let g = f (omega arith) in
          omega arith
      by (no n) f = let u = none b (take k l) n in absurd (omega arith)

  pub passing_before : (l : List ℕ) (i : ℕ) → i < passing d l → P (get_or l i 0)
  unfolding passing
  passing_before [] i h = absurd (omega arith)
  passing_before (b ∷ l) zero h = pick_elim (λ k. 0 < k → P b) (d b) (λ p h. p) (λ n h. absurd (omega arith)) h
  passing_before (b ∷ l) (suc i) h =
      pick_elim (λ k. suc i < k → P (get_or l i 0)) (d b) (λ p h. passing_before l i (omega arith)) (λ n h. absurd (omega arith)) h

  pub passing_is : (l : List ℕ) (k : ℕ) → k < length l → ((i : ℕ) → i < k → P (get_or l i 0)) → ¬ P (get_or l k 0) → k ≡ passing d l
  passing_is [] k h f n = absurd (omega arith)
  passing_is (b ∷ l) zero h f n = sym (none b l n)
  passing_is (b ∷ l) (suc k) h f n = ap suc (passing_is l k (omega arith) (λ i q. f (suc i) (omega arith)) n) ∙ sym (one b l (f 0 (omega arith)))

  pub passing_full : (l : List ℕ) → All P l → passing d l ≡ length l
  passing_full [] a = unfold passing in refl
  passing_full (b ∷ l) a = one b l a.0 ∙ ap suc (passing_full l a.1)

-- ---- what the code's chains count

pub lf_counted : (l : List ℕ) (r : ℕ) → r ≡ prefix_len (λ b. not (eqb b 10)) l → r ≡ passing not_lf? l
lf_counted l r e = e ∙ counted not_lf? (λ b. not (eqb b 10)) (λ b. not_tells b (ℕ_discrete b 10)) l
  where
    not_tells : (b : ℕ) (q : Dec (b ≡ 10)) → not (eqb b 10) ≡ truth (not_lf? b)
    not_tells b (yes e) = ap not (eq-eqb b 10 e) ∙ fails (not_lf? b) (λ n. n e)
    not_tells b (no n) = ap not (ne_eqb b 10 n) ∙ holds (not_lf? b) n

pub printable_counted : (l : List ℕ) (r : ℕ) → r ≡ prefix_len (λ b. cond (leb 32 b) (leb b 126) false) l → r ≡ passing printable? l
unfolding within?
printable_counted l r e = e ∙ counted printable? (λ b. cond (leb 32 b) (leb b 126) false) (λ b. to_and (leb 32 b) (leb b 126) ∙ both (dec_le 32 b) (dec_le b 126) (le_tells 32 b) (le_tells b 126)) l
  where
    to_and : (x y : Bool) → cond x y false ≡ (x && y)
    to_and true y = refl
    to_and false y = refl
