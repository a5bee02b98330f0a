-- The lines of a text, each with its end: nothing, LF or CR LF. Joined again they are the text.
use Rattle.std.specs.Prelude.{◌≡◌, List, [], ◌∷◌, ◌++◌, ℕ, take, drop}
use Rattle.std.proofs.Math.Decide.{ℕ_discrete}
use Rattle.kit.specs.Answer.{pick, ×_dec}
use Rattle.reading.specs.Feed.{opens?}

abbrev pub Cut : Type 0
Cut = List ℕ × List ℕ

abbrev pub with_byte : ℕ → List Cut → List Cut
with_byte b [] = (b ∷ [], []) ∷ []
with_byte b (c ∷ cs) = (b ∷ c.0, c.1) ∷ cs

abbrev pub with_cr : List Cut → List Cut
with_cr [] = []
with_cr (c ∷ cs) = (c.0, 13 ∷ c.1) ∷ cs

unfoldable pub cuts : List ℕ → List Cut
cuts [] = []
cuts (b ∷ t) = pick (ℕ_discrete b 10) (([], 10 ∷ []) ∷ cuts t) (pick (×_dec (ℕ_discrete b 13) (opens? 10 t)) (with_cr (cuts t)) (with_byte b (cuts t)))

-- the first line has w bytes, and the next one starts at `next`
pub record Starts (t : List ℕ) (w next : ℕ) : Type 0 where
  pub end : List ℕ
  pub whole : take next t ≡ take w t ++ end
  pub cut : cuts t ≡ (take w t, end) ∷ cuts (drop next t)
