-- Which maps a second falls between, and their shares.
use Rattle.std.specs.Prelude.{◌≡◌, List, ℕ, ◌+◌, ◌-◌, ◌≤◌, ◌<◌, length, get_or}
use Rattle.ask_spans.specs.declared.Shares.{Shares}

-- the epoch of map i
abbrev pub epoch : List ℕ → ℕ → ℕ
epoch es i = get_or es i 0

-- how far two seconds are apart
abbrev pub gap : ℕ → ℕ → ℕ
gap s t = (s - t) + (t - s)

-- no two neighbouring epochs are more than `limit` seconds apart
abbrev pub Close : ℕ → List ℕ → Type 0
Close limit es = (i : ℕ) → i + 1 < length es → epoch es (i + 1) ≤ epoch es i + limit

-- the nearest map, the earlier of two equally near
pub record NearestMap (es : List ℕ) (t i : ℕ) : Type 0 where
  pub map : i < length es
  pub near : (j : ℕ) → j < length es → gap t (epoch es i) ≤ gap t (epoch es j)
  pub earlier : (j : ℕ) → j < i → gap t (epoch es i) < gap t (epoch es j)

-- one map alone, or two with the time to the other's epoch
abbrev pub alone : ℕ → Shares
alone i = record { map = i; early = 1; late = 0 }

abbrev pub shared : ℕ → ℕ → ℕ → Shares
shared i early late = record { map = i; early = early; late = late }

-- the shares of map i and map i + 1. Method 0: the nearest map; method 1: formula (2), at the last epoch the last map alone
pub data Uses (es : List ℕ) (t method : ℕ) : Shares → Type 0 where
  nearest : (i : ℕ) → method ≡ 0 → NearestMap es t i → Uses es t method (alone i)
  between : (i : ℕ) → method ≡ 1 → i + 1 < length es → epoch es i ≤ t → t < epoch es (i + 1) → Uses es t method (shared i (epoch es (i + 1) - t) (t - epoch es i))
  last : (i : ℕ) → method ≡ 1 → i + 1 ≡ length es → t ≡ epoch es i → Uses es t method (alone i)
