-- The next row of a text, from a line's start on, after n lines.
use Rattle.std.specs.Prelude.{◌≡◌, List, ℕ, suc, ◌-◌, ◌≤◌, ◌<◌, length, take, drop}
use Rattle.std.proofs.Math.Decide.{dec_le}
use Rattle.kit.specs.Answer.{pick}
use Rattle.layout.specs.Text.{pad}
use Rattle.reading.specs.Feed.{over, bad, row, split, feed}
use Rattle.read_lines.specs.declared.NextRow.{NextRow}

-- there is none: the text ends after m lines
pub record LeadsOver (t : List ℕ) (at n m : ℕ) : Type 0 where
  pub few : m ≤ length t
  pub on : feed (suc n) (split (drop at t)) ≡ over (suc m)

-- it stands from start to end, after m lines; the next line starts at next
pub record LeadsRow (t : List ℕ) (at n start end next m : ℕ) : Type 0 where
  pub after : at ≤ start
  pub inside : start ≤ end
  pub fits : end - start ≤ 80
  pub whole : end ≤ length t
  pub ahead : start < next
  pub behind : end ≤ next
  pub within : next ≤ length t
  pub passed : m ≤ start
  pub on : feed (suc n) (split (drop at t)) ≡ row (suc m) (pad (take (end - start) (drop start t))) (feed (suc (suc m)) (split (drop next t)))

-- `Leads t at n r`: r is what comes after n lines, from the line that starts at `at` on
abbrev pub Leads : List ℕ → ℕ → ℕ → NextRow → Type 0
Leads t at n (NextRow.Over m) = LeadsOver t at n m
Leads t at n (NextRow.Bad w) = feed (suc n) (split (drop at t)) ≡ bad w
Leads t at n (NextRow.Row start end next m) = LeadsRow t at n start end next m

-- the number that refusal 10 tells after n lines
abbrev pub after_all : ℕ → ℕ
after_all n = pick (dec_le (suc n) 18446744073709551615) (suc n) 18446744073709551615
