-- A satellite's mark is set exactly when it was given.
use mathlib.Core.Path.{◌≡◌, refl, sym, ◌∙◌}
use mathlib.Core.Logic.{◌⊎◌, inl, inr}
use mathlib.Core.List.{List, [], ◌∷◌}
use Prim.Native.Nat.{ℕ, zero, suc, ◌+◌, ◌-◌, ◌<◌}
use native.Mathlib.Decide.{ℕ_discrete}
use native.Mathlib.Omega.{arith}
use lib.ListN.{length, get_or, set, replicate, length-set, length-replicate}
use lib.Seq.{get_or-set_same, get_or-set_other}
use lib.IntN.{ℤ, pos, negsuc, nat_abs}
use Rattle.kit.specs.Answer.{ok, All}
use Rattle.kit.proofs.AnswerLaws.{pick_yes, pick_no, bind_yields, need_yields, Yields, y_ok, yields}
use Rattle.kit.specs.Range.{Within, Natural}
use Rattle.layout.specs.Records.{Vals}
use Rattle.biases.specs.Biases.{SameSatellite}
use Rattle.biases.specs.Rules.{satellite_items, Letter, its_g, no_letter, its_r}
use Rattle.biases.specs.Read.{system_of, satellite_meant, satellite_of}
use Rattle.biases.proofs.Laws.{system_yields}
use Rattle.biases.specs.declared.Satellite.{Satellite}
use Rattle.bias_scan.specs.Marks.{spot, marked, Small}

spot_g : (s : Satellite) → s.system ≡ 71 → spot s ≡ s.number - 1
unfolding spot
spot_g s e = pick_yes (ℕ_discrete s.system 71) _ _ e

spot_r : (s : Satellite) → s.system ≡ 82 → spot s ≡ s.number + 98
unfolding spot
spot_r s e = pick_no (ℕ_discrete s.system 71) _ _ (λ f. omega arith)

pub spot_below : (s : Satellite) → Small s → spot s < 198
spot_below s z = by z.system
  where
    by : (s.system ≡ 71) ⊎ (s.system ≡ 82) → spot s < 198
    by (inl e) = let k = spot_g s e in omega (arith, z.number)
    by (inr e) = let k = spot_r s e in omega (arith, z.number)

length_marked : (ss : List Satellite) → length (marked ss) ≡ 198
unfolding marked
length_marked [] = length-replicate {A = ℕ} 198 0
length_marked (s ∷ ss) = length-set (marked ss) (spot s) 1 ∙ length_marked ss

-- one mark for one satellite
spot_apart : (x y : Satellite) → Small x → Small y → spot x ≡ spot y → SameSatellite x y
spot_apart x y u v e = by u.system v.system
  where
    by : (x.system ≡ 71) ⊎ (x.system ≡ 82) → (y.system ≡ 71) ⊎ (y.system ≡ 82) → SameSatellite x y
    by (inl a) (inl b) = let j = spot_g x a in let k = spot_g y b in (omega arith, omega (arith, u.number, v.number))
    by (inl a) (inr b) = let j = spot_g x a in let k = spot_r y b in absurd (omega (arith, u.number, v.number))
    by (inr a) (inl b) = let j = spot_r x a in let k = spot_g y b in absurd (omega (arith, u.number, v.number))
    by (inr a) (inr b) = let j = spot_r x a in let k = spot_r y b in (omega arith, omega (arith, u.number, v.number))

same_spot : (x y : Satellite) → SameSatellite x y → spot x ≡ spot y
unfolding spot
same_spot x y e = rw (e.0, e.1) refl

none_of : (n i : ℕ) → ◌≡◌ {A = ℕ} (get_or (replicate n 0) i 0) 0
none_of zero i = refl
none_of (suc n) zero = refl
none_of (suc n) (suc i) = none_of n i

module _ (x : Satellite) (u : Small x) where
  -- no mark: none of these is the same; a mark: one is
  abbrev Tells : List Satellite → Type 0
  Tells ss = ((get_or (marked ss) (spot x) 0 ≡ 0) × All (λ y. ¬ SameSatellite x y) ss) ⊎ (¬ (get_or (marked ss) (spot x) 0 ≡ 0) × ¬ All (λ y. ¬ SameSatellite x y) ss)

  tells : (ss : List Satellite) → All Small ss → Tells ss
  unfolding marked
  tells [] a = inl (none_of 198 (spot x), tt)
  tells (y ∷ ss) a = by (ℕ_discrete (spot x) (spot y)) (tells ss a.1)
    where
      here : spot x ≡ spot y → get_or (set (marked ss) (spot y) 1) (spot x) 0 ≡ 1
      here e = let l = length_marked ss in let b = spot_below y a.0 in rw e (get_or-set_same (marked ss) (spot y) 1 0 (omega arith))

      there : ¬ (spot x ≡ spot y) → get_or (set (marked ss) (spot y) 1) (spot x) 0 ≡ get_or (marked ss) (spot x) 0
      there n = get_or-set_other (marked ss) (spot y) (spot x) 1 0 n

      by : Dec (spot x ≡ spot y) → Tells ss → Tells (y ∷ ss)
      by (yes e) t = let h = here e in inr (λ z. omega arith, λ al. al.0 (spot_apart x y u a.0 e))
      by (no n) (inl t) = inl (there n ∙ t.0, (λ z. n (same_spot x y z), t.1))
      by (no n) (inr t) = let h = there n in inr (λ z. t.0 (sym h ∙ z), λ al. t.1 al.1)

  pub unmarked : (ss : List Satellite) → All Small ss → get_or (marked ss) (spot x) 0 ≡ 0 → All (λ y. ¬ SameSatellite x y) ss
  unmarked ss a e = by (tells ss a)
    where
      by : Tells ss → All (λ y. ¬ SameSatellite x y) ss
      by (inl t) = t.1
      by (inr t) = absurd (t.0 e)

  pub marked_twice : (ss : List Satellite) → All Small ss → ¬ (get_or (marked ss) (spot x) 0 ≡ 0) → ¬ All (λ y. ¬ SameSatellite x y) ss
  marked_twice ss a n = by (tells ss a)
    where
      by : Tells ss → ¬ All (λ y. ¬ SameSatellite x y) ss
      by (inl t) = absurd (n t.0)
      by (inr t) = t.1

-- ---- what a row gives has a mark

letter_small : {s : ℕ} {l : List ℕ} → Letter s l → (s ≡ 71) ⊎ (s ≡ 82)
letter_small its_g = inl refl
letter_small no_letter = inl refl
letter_small its_r = inr refl

natural_small : (z : ℤ) → Natural 1 99 z → Within 1 99 (nat_abs z)
natural_small (pos n) w = w
natural_small (negsuc n) w = absurd w

meant_small : (v : Vals satellite_items) → Yields Small (satellite_meant v)
unfolding satellite_meant
meant_small v =
    bind_yields (system_of v.0) (λ s f. need_yields _ _ (λ w. y_ok (record { system = letter_small (yields _ (system_yields v.0) f); number = natural_small v.1.0 w })))

pub said_small : (r : List ℕ) (s : Satellite) → satellite_of r ≡ ok s → Small s
unfolding satellite_of
said_small r s e = yields _ (bind_yields _ (λ v f. meant_small v)) e
