-- Each number below another; the front of an area.
use Rattle.std.specs.Prelude.{List, ◌++◌, ℕ, zero, suc, length, drop}

-- of each number below n
abbrev pub Upto : (ℕ → Type 0) → ℕ → Type 0
Upto P zero = Unit {0}
Upto P (suc n) = P n × Upto P n

-- ---- the elements a in front of an area, and behind them what was there
abbrev pub front : {A : Type 0} → List A → List A → List A
front a l = a ++ drop (length a) l
