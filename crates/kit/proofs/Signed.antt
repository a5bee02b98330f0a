-- Tests on integers, against the decisions on them.
use mathlib.Core.Path.{◌≡◌, refl, sym, subst}
use mathlib.Core.Bool.{Bool, true, false, ◌&&◌}
use lib.Dec.{T}
use lib.IntN.{ℤ}
use lib.Signed.{le_z}
use mir.Syntax.{w32, w64}
use mir.Val.{SFits, to_z, of_z}
use mir.Facts.{to_z-of_z, sfits_widen}
use Rattle.kit.specs.Integer.{between?}
use Rattle.kit.specs.Truth.{truth}
use Rattle.kit.proofs.TruthLaws.{holds, fails}

-- a number of 32 bits is the same in 64
pub widened : (x : ℤ) → SFits w32 x → to_z w64 (of_z w64 (to_z w32 (of_z w32 x))) ≡ x
widened x f = rw (to_z-of_z f) (to_z-of_z {w = w64} (sfits_widen (tt {0}) f))

-- from low on, and up to high
pub both : (low high x : ℤ) → (le_z low x && le_z x high) ≡ truth (between? low high x)
both low high x = go (le_z low x) (le_z x high) refl refl
  where
    go : (t u : Bool) → le_z low x ≡ t → le_z x high ≡ u → (t && u) ≡ truth (between? low high x)
    go true true e f = holds (between? low high x) (record { from = record { le = subst T (sym e) tt }; to = record { le = subst T (sym f) tt } })
    go true false e f = fails (between? low high x) (λ b. subst T f b.to.le)
    go false u e f = fails (between? low high x) (λ b. subst T e b.from.le)
