-- Where a block's elements stand in the six lists.
use Rattle.std.specs.Prelude.{ℕ, ◌+◌, ◌-◌, ◌*◌}

-- how many blocks of its kind stand before block b of map i
abbrev pub before : (B i b : ℕ) → ℕ
before B i b = (i - 1) * B + b

-- where its elements begin, w of each block
abbrev pub place : (B w i b : ℕ) → ℕ
place B w i b = before B i b * w
