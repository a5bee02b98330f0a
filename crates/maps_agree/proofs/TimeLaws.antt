-- When an epoch may stand: the tests of the code decide what the rules say.
use mathlib.Core.Path.{◌≡◌, refl, ◌∙◌}
use mathlib.Core.Bool.{true, false}
use mathlib.Core.List.{List, [], ◌∷◌}
use Prim.Native.Nat.{ℕ, suc, ◌-◌}
use native.Mathlib.Decide.{ℕ_discrete}
use native.Mathlib.Omega.{arith}
use lib.ListN.{length, get_or}
use lib.Dec.{eqb}
use Rattle.kit.specs.Truth.{truth}
use Rattle.kit.proofs.TruthLaws.{holds, fails, truth_true, truth_false, truth_same, eq_tells}
use Rattle.mapset.specs.declared.Header.{Header}
use Rattle.mapset.specs.Decisions.{follows?}
use Rattle.reading.specs.Maps.{after?, in_time?}

module _ (h : Header) where
  pub after_first : (es : List ℕ) (e : ℕ) → length es ≡ 0 → eqb e h.times.first ≡ truth (after? h es e)
  unfolding after?
  after_first [] e z = eq_tells e h.times.first
  after_first (x ∷ xs) e z = absurd (omega arith)

  pub after_next : (es : List ℕ) (e : ℕ) → ¬ (length es ≡ 0) → truth (follows? h.times.interval (get_or es (length es - 1) 0) e) ≡ truth (after? h es e)
  unfolding after?
  after_next [] e z = absurd (z refl)
  after_next (x ∷ xs) e z = let n : suc (length xs) - 1 ≡ length xs = omega arith in rw n

  module _ (es : List ℕ) (e : ℕ) where
    pub time_not : truth (after? h es e) ≡ false → false ≡ truth (in_time? h es e)
    time_not t = fails (in_time? h es e) (λ p. truth_false (after? h es e) t p.0)

    module _ (t : truth (after? h es e) ≡ true) where
      pub time_last : suc (length es) ≡ h.times.maps → eqb e h.times.last ≡ truth (in_time? h es e)
      time_last m =
          eq_tells e h.times.last ∙ truth_same (ℕ_discrete e h.times.last) (in_time? h es e) (λ q. (truth_true (after? h es e) t, λ _. q)) (λ p. p.1 m)

      pub time_fine : ¬ (suc (length es) ≡ h.times.maps) → true ≡ truth (in_time? h es e)
      time_fine n = holds (in_time? h es e) (truth_true (after? h es e) t, λ m. absurd (n m))
