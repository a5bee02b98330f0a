-- The areas of a call's own: the numbers of the header record, the bytes of its texts, and the result. One that is too short is told before
-- anything else is looked at, and then nothing is written.
use Rattle.std.specs.Prelude.{ℕ}
use Rattle.std.proofs.Math.Decide.{ℕ_discrete, dec_le}
use Rattle.kit.specs.Answer.{pick}
use Rattle.kit.specs.Range.{lesser}

-- of the lengths of header, texts and result: 101, 102 or 103 for the first that is too short, 0 where none is; the result has n elements
unfoldable pub too_short : ℕ → ℕ → ℕ → ℕ → ℕ
too_short h x r n = pick (dec_le 45 h) (pick (dec_le 1324 x) (pick (dec_le n r) 0 103) 102) 101

-- of a call with three headers, or three of texts, the shortest counts
abbrev pub shortest : ℕ → ℕ → ℕ → ℕ
shortest a b c = lesser a (lesser b c)

-- what is answered where none is too short, or the number told
unfoldable pub unless : {A : Type 0} → ℕ → A → (ℕ → A) → A
unless k a f = pick (ℕ_discrete k 0) a (f k)

-- of a call with two areas for the result, of m and of n elements: the first of the two that is too short
abbrev pub too_short_two : (h x a m b n : ℕ) → ℕ
too_short_two h x a m b n = unless (too_short h x a m) (too_short h x b n) (λ k. k)
