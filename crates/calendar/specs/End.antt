-- Seconds are counted from 1900-01-01 00:00:00.
use Rattle.std.specs.Prelude.{ℕ}

-- the first second after 2199
abbrev pub end : ℕ
end = 9467107200
