-- A week comes from the caller: what has to hold of its numbers before a set is added, and the answer.
use Rattle.std.specs.Prelude.{Option, Some, None, Result, Ok, Err, List, ℕ, zero, suc, ◌*◌, ◌≤◌, ℤ, nat_abs}
use Rattle.std.proofs.Math.Decide.{dec_le}
use Rattle.kit.specs.Answer.{pick, ×_dec}
use Rattle.kit.specs.Integer.{le?}
use Rattle.kit.specs.Lists.{front}
use Rattle.week_tally.specs.Figures.{nodes_in, Bounded, Ready, Fit}
use Rattle.week_tally.specs.declared.Tally.{Tally}
use Rattle.week_tally.specs.declared.Range.{Range}
use Rattle.week_set.specs.SetFigures.{set_rows, rows_need}
use Rattle.week.specs.Week.{Given, valid?, room?, grown}
use Rattle.week.specs.declared.Week.{Week}
use Rattle.week.specs.declared.Why.{Why}
use Rattle.week.specs.declared.Why.TheVariants as Y

-- at most 2,000,000 nodes to a set; a sum that so many values can have; a smallest and a largest where there is a value, in order
abbrev pub Fair : ℕ → Tally → Type 0
Fair sets t = (nodes_in t ≤ sets * 2_000_000) × (Bounded t × Fit t.given t.range)

abbrev pub Sane : Week → Type 0
Sane w = Fair w.sets w.tec.0 × (Fair w.sets w.rms.0 × Fair w.sets w.height.0)

unfoldable pub fit? : (n : ℕ) (r : Option Range) → Dec (Fit n r)
fit? zero None = yes tt
fit? zero (Some r) = no (λ h. h)
fit? (suc n) None = no (λ h. h)
fit? (suc n) (Some r) = le? r.smallest r.largest

unfoldable pub fair? : (sets : ℕ) (t : Tally) → Dec (Fair sets t)
fair? sets t = ×_dec (dec_le (nodes_in t) (sets * 2_000_000)) (×_dec (dec_le (nat_abs t.sum) (t.given * 99_999_000)) (fit? t.given t.range))

unfoldable pub sane? : (w : Week) → Dec (Sane w)
sane? w = ×_dec (fair? w.sets w.tec.0) (×_dec (fair? w.sets w.rms.0) (fair? w.sets w.height.0))

-- the answer, and what is then in the area for the rows
pub record Outcome : Type 0 where
  pub answer : Result Week Why
  pub rows : List ℤ

abbrev pub comes : Result Week Why → List ℤ → Outcome
comes r l = record { answer = r; rows = l }

-- 60 for a set after the hundredth, then 31 for a week that breaks a condition or a set that is not valid, then 11
unfoldable pub outcome : Week → Given → Outcome
outcome w s =
    pick (dec_le 100 w.sets) (comes (Err Y.Full) s.rows)
    (pick (sane? w)
    (pick (valid? s)
    (pick (room? s) (comes (Ok (grown w s.header s.areas)) (front (set_rows s.header s.areas) s.rows)) (comes (Err (Y.Short (rows_need s.header))) s.rows))
    (comes (Err Y.Invalid) s.rows))
    (comes (Err Y.Invalid) s.rows))

-- after a refusal the week is as before
abbrev pub kept : Week → Result Week Why → Week
kept w (Ok v) = v
kept w (Err y) = w

-- ---- how large the numbers of an answer are
abbrev pub SmallWeek : Week → Type 0
SmallWeek w = (w.sets ≤ 100) × (Ready w.tec.0 × (Ready w.rms.0 × Ready w.height.0))

abbrev pub SmallAnswer : Result Week Why → Type 0
SmallAnswer (Ok w) = SmallWeek w
SmallAnswer (Err y) = Unit {0}
