-- No area is the first too short exactly where each is long enough.
use mathlib.Core.Path.{◌≡◌, refl, ◌∙◌}
use mathlib.Core.List.{List, [], ◌∷◌}
use mathlib.Core.Option.{Option, none, some}
use Prim.Native.Nat.{ℕ, suc, ◌≤◌}
use native.Mathlib.Decide.{dec_le}
use Rattle.kit.specs.Answer.{All, pick}
use Rattle.kit.proofs.AnswerLaws.{pick_yes}
use Rattle.kit.proofs.TruthLaws.{clash}
use Rattle.read_needs.specs.Needs.{first_short}

pub all_long : (i : ℕ) (xs : List (ℕ × ℕ)) → first_short i xs ≡ none → All (λ x. x.0 ≤ x.1) xs
unfolding first_short pick
all_long i [] e = tt
all_long i (x ∷ xs) e = by (dec_le x.0 x.1) e (all_long (suc i) xs)
  where
    by : (d : Dec (x.0 ≤ x.1)) → pick d (first_short (suc i) xs) (some (i, x.0)) ≡ none
        → (first_short (suc i) xs ≡ none → All (λ x. x.0 ≤ x.1) xs) → All (λ x. x.0 ≤ x.1) (x ∷ xs)
    by (yes p) e f = (p, f e)
    by (no n) e f = clash (cc)

pub none_short : (i : ℕ) (xs : List (ℕ × ℕ)) → All (λ x. x.0 ≤ x.1) xs → first_short i xs ≡ none
unfolding first_short
none_short i [] a = refl
none_short i (x ∷ xs) a = pick_yes (dec_le x.0 x.1) _ _ a.0 ∙ none_short (suc i) xs a.1

-- ---- one area after the other

module _ (need lent : ℕ) (xs : List (ℕ × ℕ)) where
  pub short_here : (i : ℕ) {s : ℕ × ℕ} → some s ≡ first_short i ((need, lent) ∷ []) → some s ≡ first_short i ((need, lent) ∷ xs)
  unfolding first_short pick
  short_here i {s} = by (dec_le need lent)
    where
      by : (d : Dec (need ≤ lent)) → some s ≡ pick d none (some (i, need)) → some s ≡ pick d (first_short (suc i) xs) (some (i, need))
      by (yes p) e = clash (cc)
      by (no n) e = e

  pub enough_here : (i : ℕ) → none ≡ first_short i ((need, lent) ∷ []) → first_short (suc i) xs ≡ first_short i ((need, lent) ∷ xs)
  unfolding first_short pick
  enough_here i = by (dec_le need lent)
    where
      by : (d : Dec (need ≤ lent)) → ◌≡◌ {A = Option (ℕ × ℕ)} none (pick d none (some (i, need))) → first_short (suc i) xs ≡ pick d (first_short (suc i) xs) (some (i, need))
      by (yes p) e = refl
      by (no n) e = clash (cc)
