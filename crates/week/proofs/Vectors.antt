-- 60 for a set after the hundredth, whatever it is; the hundredth is looked at.
use mathlib.Core.Path.{◌≡◌, ◌∙◌}
use Prim.Native.Nat.{ℕ}
use native.Mathlib.Omega.{arith}
use native.Mathlib.Decide.{dec_le}
use Rattle.kit.proofs.AnswerLaws.{pick_yes, pick_no}
use Rattle.areas.specs.Valid.{Valid}
use Rattle.week_tally.specs.Figures.{nothing}
use Rattle.week.specs.Week.{Given, tecu, km, valid?}
use Rattle.week.specs.Sane.{sane?, Sane, outcome, comes}
use Rattle.week.specs.declared.Week.{Week}
use Rattle.std.specs.Prelude.{Err}
use Rattle.week.specs.declared.Why.TheVariants as Y

abbrev after : ℕ → Week
after n = record { sets = n; tec = tecu nothing; rms = tecu nothing; height = km nothing }

pub hundred : (s : Given) → outcome (after 100) s ≡ comes (Err Y.Full) s.rows
unfolding outcome
hundred s = pick_yes (dec_le 100 100) _ _ (omega arith)

-- one that is not valid: 31, as the hundredth
pub ninety_nine : (s : Given) → Sane (after 99) → ¬ (Valid s.header s.texts s.areas) → outcome (after 99) s ≡ comes (Err Y.Invalid) s.rows
unfolding outcome
ninety_nine s h n = pick_no (dec_le 100 99) _ _ (λ k. omega arith) ∙ pick_yes (sane? (after 99)) _ _ h ∙ pick_no (valid? s) _ _ n
