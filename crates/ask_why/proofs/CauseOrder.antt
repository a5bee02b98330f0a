-- The cause of a node without a value: of two the absent map first, then the exponent, then the number; and the numbers and exponents that are no cause.
use mathlib.Core.Path.{◌≡◌, refl}
use mathlib.Core.Bool.{true, false}
use mathlib.Core.Logic.{◌⊎◌, inl, inr}
use Prim.Native.Nat.{ℕ}
use native.Mathlib.Omega.{arith}
use lib.IntN.{ℤ, pos, negsuc}
use Rattle.kit.specs.Integer.{Between, le?, between?}
use Rattle.kit.specs.Truth.{truth}
use Rattle.kit.proofs.TruthLaws.{truth_true, truth_false}
use Rattle.mapset.specs.declared.Kind.TheVariants.{Tec, Rms}
use Rattle.ask_why.specs.Explain.{Causes, absent, by_exponent, by_number, is_9999}
use Rattle.ask_why.specs.declared.Cause.{Cause}
use Rattle.ask_why.specs.declared.Cause.TheVariants as C

within : (low high x : ℤ) → truth (between? low high x) ≡ true → Between low high x
within low high x = truth_true (between? low high x)

beyond : (low high x : ℤ) → truth (between? low high x) ≡ false → ¬ Between low high x
beyond low high x = truth_false (between? low high x)

nowhere : ◌≡◌ {A = ℕ} 0 1 ⊎ ◌≡◌ {A = ℕ} 0 3 → ⊥
nowhere (inl e) = omega (arith, e)
nowhere (inr e) = omega (arith, e)

-- an RMS node: its map absent, an exponent of 1, the number 9999; then the map there, the exponent 1 or -4; then the exponent 0, the numbers 100,000 and -10,000; then 9999
pub causes_in_order : Causes Rms 0 (pos 9999) (pos 1) C.MapAbsent
    × Causes Rms 1 (pos 100000) (pos 1) C.Exponent
    × Causes Rms 1 (pos 9999) (negsuc 3) C.Exponent
    × Causes Rms 1 (pos 100000) (pos 0) C.Number
    × Causes Rms 1 (negsuc 9999) (negsuc 2) C.Number
    × Causes Rms 1 (pos 9999) (negsuc 2) C.Is9999
unfolding truth between? le?
causes_in_order = (
  absent nowhere,
  by_exponent (inl refl) (beyond _ _ _ refl),
  by_exponent (inl refl) (beyond _ _ _ refl),
  by_number (inl refl) (within _ _ _ refl) (beyond _ _ _ refl),
  by_number (inl refl) (within _ _ _ refl) (beyond _ _ _ refl),
  is_9999 (inl refl) (within _ _ _ refl) refl,
)

-- 99,999 under -3 and -9999 under 0 have a value
largest : (c : Cause) → ¬ Causes Tec 0 (pos 99999) (negsuc 2) c
unfolding truth between? le?
largest C.MapAbsent (absent n) = n tt
largest C.Exponent (by_exponent p n) = n (within _ _ _ refl)
largest C.Number (by_number p e n) = n (within _ _ _ refl)
largest C.Is9999 (is_9999 p e q) = let z : ◌≡◌ {A = ℕ} 99999 9999 = cc in omega arith

smallest : (c : Cause) → ¬ Causes Tec 0 (negsuc 9998) (pos 0) c
unfolding truth between? le?
smallest C.MapAbsent (absent n) = n tt
smallest C.Exponent (by_exponent p n) = n (within _ _ _ refl)
smallest C.Number (by_number p e n) = n (within _ _ _ refl)
smallest C.Is9999 (is_9999 p e q) = let z : ◌≡◌ {A = ℕ} 0 1 = cc in omega arith

pub no_cause : (c : Cause) → (¬ Causes Tec 0 (pos 99999) (negsuc 2) c) × (¬ Causes Tec 0 (negsuc 9998) (pos 0) c)
no_cause c = (largest c, smallest c)
