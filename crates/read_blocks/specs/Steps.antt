-- What one line of a block does, the first time over and the second.
use Rattle.std.specs.Prelude.{◌≡◌, ℕ, suc, ◌+◌, ◌-◌, ◌≤◌, ◌<◌, List, ◌++◌, length, take, drop, ℤ, Result, Ok, Err, Option, Some, None}
use Rattle.kit.specs.Answer.{refused, amap}
use Rattle.reading.specs.declared.Why.{Why}
use Rattle.reading.specs.Feed.{split, feed}
use Rattle.read_blocks.specs.Blocks.{values}
use Rattle.read_blocks.specs.declared.Step.{Step}
use Rattle.read_blocks.specs.declared.Put.{Put}

-- the block's values from one line's start, by those from another's
pub record Moved (t : List ℕ) (at n left at' n' left' : ℕ) : Type 0 where
  pub ahead : at ≤ at'
  pub within : at' ≤ length t
  pub small : n' ≤ at'
  pub have : List ℤ
  pub on : values (feed (suc n) (split (drop at t))) left ≡ amap (λ x. (have ++ x.0, x.1)) (values (feed (suc n') (split (drop at' t))) left')

abbrev pub Stepped : List ℕ → (at n left : ℕ) → Result Step Why → Type 0
Stepped t at n left (Ok s) = (at < s.next) × Moved t at n left s.next s.lines s.left
Stepped t at n left (Err w) = values (feed (suc n) (split (drop at t))) left ≡ refused w

-- a line of the second time over puts the next m values in front
pub record Puts (t : List ℕ) (at n c at' m : ℕ) (out : List ℤ) : Type 0 where
  pub ahead : at < at'
  pub upto : m ≤ c
  pub moved : Moved t at n c at' (n + 1) (c - m)
  pub front : take m out ≡ moved.have

abbrev pub Turned : List ℕ → (at n c : ℕ) → Option Put → List ℤ → Type 0
Turned t at n c (Some p) out = Puts t at n c p.next p.count out
Turned t at n c None out = ⊥
