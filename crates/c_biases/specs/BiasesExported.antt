-- Biases as they cross to other languages: a number, the three areas, and two areas of the call's own, of two elements each.
use Rattle.std.specs.Prelude.{◌≡◌, List, [], ◌∷◌, ℕ, length}
use Rattle.std.proofs.Math.Decide.{dec_le}
use Rattle.kit.specs.Answer.{pick, ×_dec}
use Rattle.kit.specs.Lists.{front}
use Rattle.read_outcome.specs.Outcome as maps
use Rattle.bias_fill.specs.Flat.{Lent}
use Rattle.bias_text.specs.Biased.{ToldBiases, given, because, Outcome, outcome}

-- 0 for done, or 01's number
abbrev pub told_number : ToldBiases → ℕ
told_number (given a b) = 0
told_number (because w) = maps.told_number w

-- how many satellites and stations; nothing on a refusal
abbrev pub told_counts : ToldBiases → List ℕ
told_counts (given a b) = a ∷ b ∷ []
told_counts (because w) = []

-- line and column, or area and need; nothing where the biases are given
abbrev pub told_place : ToldBiases → List ℕ
told_place (given a b) = []
told_place (because w) = maps.told_place w

-- the number r is answered, and the call's own areas n and p have become n' and p'
abbrev pub BiasesCross : ToldBiases → (n p : List ℕ) (r : ℕ) (n' p' : List ℕ) → Type 0
BiasesCross a n p r n' p' = (r ≡ told_number a) × ((n' ≡ front (told_counts a) n) × (p' ≡ front (told_place a) p))

-- the number answered, and what is then in the areas
pub record Crossed : Type 0 where
  pub number : ℕ
  pub areas : Lent
  pub counts : List ℕ
  pub place : List ℕ

abbrev pub crossed : ℕ → Lent → List ℕ → List ℕ → Crossed
crossed k l n p = record { number = k; areas = l; counts = n; place = p }

unfoldable pub crosses : Outcome → List ℕ → List ℕ → Crossed
crosses o n p = crossed (told_number o.told) o.areas (front (told_counts o.told) n) (front (told_place o.told) p)

-- 103 where one of the call's own areas has fewer than two elements, with nothing written
unfoldable pub biases_crossed : List ℕ → Lent → List ℕ → List ℕ → Crossed
biases_crossed t l n p = pick (×_dec (dec_le 2 (length n)) (dec_le 2 (length p))) (crosses (outcome t l) n p) (crossed 103 l n p)
