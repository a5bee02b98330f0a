-- Numbered maps, and a slot for each number: the one gives the other.
use mathlib.Core.Path.{◌≡◌, refl, sym, ap, ◌∙◌}
use mathlib.Core.Option.{none, some}
use mathlib.Core.List.{List, [], ◌∷◌}
use Prim.Native.Nat.{ℕ, zero, suc, ◌+◌, ◌≤◌, ◌<◌}
use native.Mathlib.Omega.{arith}
use native.Mathlib.Decide.{ℕ_discrete}
use lib.ListN.{length}
use Rattle.kit.specs.Answer.{All}
use Rattle.mapset.specs.MapSet.{OtherMap}
use Rattle.areas.specs.Lists.{tab}
use Rattle.areas.specs.Flat.{found, Slots, slots}
use Rattle.areas.specs.Formed.{Rising}
use Rattle.areas.specs.Nest.{kept}
use Rattle.areas.proofs.ListLaws.{tab_ext}
use Rattle.areas.proofs.KindLaws.{found_here, found_past, found_low, Fits}

module _ (n B C : ℕ) where
  kept_slots : (i k : ℕ) (xs : List OtherMap) → n ≡ i + k → Rising n B C i xs → kept (suc i) (tab (suc i) k (found xs)) ≡ xs
  kept_slots i zero [] e r = refl
  kept_slots i zero (x ∷ xs) e r = absurd (omega (arith, r.0, r.1))
  kept_slots i (suc k) [] e r = kept_slots (suc i) k [] (omega arith) tt
  kept_slots i (suc k) (x ∷ xs) e r = go (ℕ_discrete x.of (suc i)) (λ ys s. kept_slots (suc i) k ys (omega arith) s)
    where
      later : x.of ≡ suc i → (j : ℕ) → suc (suc i) ≤ j → found (x ∷ xs) j ≡ found xs j
      later q j h = found_past x xs j (λ z. omega arith)

      go : Dec (x.of ≡ suc i) → ((ys : List OtherMap) → Rising n B C (suc i) ys → kept (suc (suc i)) (tab (suc (suc i)) k (found ys)) ≡ ys)
          → kept (suc i) (found (x ∷ xs) (suc i) ∷ tab (suc (suc i)) k (found (x ∷ xs))) ≡ x ∷ xs
      go (yes q) ih =
          ap (λ o. kept (suc i) (o ∷ tab (suc (suc i)) k (found (x ∷ xs)))) (found_here x xs (suc i) q)
          ∙ ap (λ t. record { of = suc i; blocks = x.blocks } ∷ kept (suc (suc i)) t) (tab_ext (suc (suc i)) k (found (x ∷ xs)) (found xs) (later q))
          ∙ ap (λ t. record { of = suc i; blocks = x.blocks } ∷ t) (ih xs (rw q at r.3))
          ∙ ap (λ j. record { of = j; blocks = x.blocks } ∷ xs) (sym q)
      go (no q) ih =
          ap (λ o. kept (suc i) (o ∷ tab (suc (suc i)) k (found (x ∷ xs)))) (found_low n B C (suc i) (x ∷ xs) (suc i) (omega arith) (omega (arith, r.0), r.1, r.2, r.3))
          ∙ ih (x ∷ xs) (omega (arith, r.0), r.1, r.2, r.3)

  pub kept_all : (xs : List OtherMap) → Rising n B C 0 xs → kept 1 (slots n xs) ≡ xs
  kept_all xs r = kept_slots 0 n xs (omega arith) r

  rising_low : (i : ℕ) (xs : List OtherMap) → Rising n B C (suc i) xs → Rising n B C i xs
  rising_low i [] r = tt
  rising_low i (x ∷ xs) r = (omega (arith, r.0), r.1, r.2, r.3)

  pub kept_rising : (i : ℕ) (ss : Slots) → i + length ss ≤ n → All (Fits n B C) ss → Rising n B C i (kept (suc i) ss)
  kept_rising i [] h p = tt
  kept_rising i (none ∷ ss) h p = rising_low i (kept (suc (suc i)) ss) (kept_rising (suc i) ss (omega arith) p.1)
  kept_rising i (some bs ∷ ss) h p = (omega arith, omega arith, p.0, kept_rising (suc i) ss (omega arith) p.1)

kept_low : (i j : ℕ) (ss : Slots) → i < j → found (kept j ss) i ≡ none
kept_low i j [] h = refl
kept_low i j (none ∷ ss) h = kept_low i (suc j) ss (omega arith)
kept_low i j (some bs ∷ ss) h = found_past (record { of = j; blocks = bs }) (kept (suc j) ss) i (λ z. omega arith) ∙ kept_low i (suc j) ss (omega arith)

pub slots_kept : (i : ℕ) (ss : Slots) → tab i (length ss) (found (kept i ss)) ≡ ss
slots_kept i [] = refl
slots_kept i (none ∷ ss) = rw (kept_low i (suc i) ss (omega arith)) (ap (λ r. none ∷ r) (slots_kept (suc i) ss))
slots_kept i (some bs ∷ ss) =
    let x : OtherMap = record { of = i; blocks = bs } in
    ap (λ o. o ∷ tab (suc i) (length ss) (found (x ∷ kept (suc i) ss))) (found_here x (kept (suc i) ss) i refl)
    ∙ ap (λ r. some bs ∷ r) (tab_ext (suc i) (length ss) (found (x ∷ kept (suc i) ss)) (found (kept (suc i) ss)) (λ j h. found_past x (kept (suc i) ss) j (λ z. omega arith)) ∙ slots_kept (suc i) ss)
