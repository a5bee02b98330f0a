-- Which satellites were given, as 198 marks: the numbers 1 to 99 of G, then those of R.
use Rattle.std.specs.Prelude.{◌⊎◌, ◌≡◌, List, [], ◌∷◌, ℕ, ◌+◌, ◌-◌, set, replicate}
use Rattle.std.proofs.Math.Decide.{ℕ_discrete}
use Rattle.kit.specs.Answer.{pick}
use Rattle.kit.specs.Range.{Within}
use Rattle.biases.specs.declared.Satellite.{Satellite}

unfoldable pub spot : Satellite → ℕ
spot s = pick (ℕ_discrete s.system 71) (s.number - 1) (s.number + 98)

unfoldable pub marked : List Satellite → List ℕ
marked [] = replicate 198 0
marked (s ∷ ss) = set (marked ss) (spot s) 1

-- a satellite has a mark
pub record Small (s : Satellite) : Type 0 where
  pub system : (s.system ≡ 71) ⊎ (s.system ≡ 82)
  pub number : Within 1 99 s.number
