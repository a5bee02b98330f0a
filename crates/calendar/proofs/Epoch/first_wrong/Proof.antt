-- `calendar::Epoch::first_wrong` meets its contract.
use mathlib.Core.Path.{ap}
use borrow.Author.Rules.{rules}
use native.Mathlib.Omega.{arith}
use mathlib.Core.Bool.{Bool, true, false, not}
use mathlib.Core.Path.{◌≡◌, sym, ◌∙◌}
use Prim.Native.Nat.{ℕ, ◌-◌}
use lib.IntN.{pos}
use lib.ListN.{drop}
use Rattle.kit.specs.Answer.{ok}
use Rattle.kit.proofs.AnswerLaws.{pick_yes, pick_no}
use Rattle.kit.specs.Range.{Natural}
use Rattle.kit.specs.Truth.{Says}
use Rattle.days.specs.Years.{row, month_days}
use Rattle.calendar.specs.Calendar.{first, numbers_of, wrong, checked}
use Rattle.days.proofs.YearLaws.{row_two}
use Rattle.calendar.specs.declared.Epoch.{Epoch}
use Rattle.calendar.proofs.Epoch.first_wrong.Statement.{statement}
use Rattle.calendar.proofs.Epoch.first_wrong.Tie as tie

-- what a test has shown
passed : (P : Type 0) (t : Bool) → Says t P → not t ≡ false → P
passed P true d e = d
passed P false d e = absurd (let z : ◌≡◌ {A = ℕ} 0 1 = cc in omega arith)

failed : (P : Type 0) (t : Bool) → Says t P → not t ≡ true → ¬ P
failed P true d e = absurd (let z : ◌≡◌ {A = ℕ} 0 1 = cc in omega arith)
failed P false d e = d

-- the answer is that of the fields left, once k are right
abbrev Left : ℕ → Epoch → Type 0
Left k e = checked e ≡ first wrong (ok tt) (drop k (numbers_of e))

left1 : (c : tie.Else-not-inside) → Left 1 c.args.self
unfolding checked
left1 c = pick_yes _ _ _ (passed (Natural 1900 2199 (pos c.args.self.year)) c.inside.result c.inside.ensures (ap not c.if-not-inside.false))

left2 : (c : tie.Else-not-inside-2) → Left 2 c.args.self
left2 c = left1 c.before.before ∙ pick_yes _ _ _ (passed (Natural 1 12 (pos c.args.self.month)) c.inside-2.result c.inside-2.ensures (ap not c.if-not-inside-2.false))

month_right : (c : tie.Else-not-inside-2) → Natural 1 12 (pos c.args.self.month)
month_right c = passed _ c.inside-2.result c.inside-2.ensures (ap not c.if-not-inside-2.false)

-- the day's range is its month's
day_range : (c : tie.After-inside-3) → Says c.inside-3.result (Natural 1 (month_days (row c.args.self.year) (c.args.self.month - 1)) (pos c.args.self.day))
day_range c = rw (c.month_days-last.ensures, c.leap_flag.ensures) at c.inside-3.ensures

left3 : (c : tie.Else-not-inside-3) → Left 3 c.args.self
left3 c = left2 c.before.before.before.before ∙ pick_yes _ _ _ (passed (Natural 1 (month_days (row c.args.self.year) (c.args.self.month - 1)) (pos c.args.self.day)) c.inside-3.result (day_range c.before) (ap not c.if-not-inside-3.false))

left4 : (c : tie.Else-not-inside-4) → Left 4 c.args.self
left4 c = left3 c.before.before ∙ pick_yes _ _ _ (passed (Natural 0 23 (pos c.args.self.hour)) c.inside-4.result c.inside-4.ensures (ap not c.if-not-inside-4.false))

left5 : (c : tie.Else-not-inside-5) → Left 5 c.args.self
left5 c = left4 c.before.before ∙ pick_yes _ _ _ (passed (Natural 0 59 (pos c.args.self.minute)) c.inside-5.result c.inside-5.ensures (ap not c.if-not-inside-5.false))

left6 : (c : tie.Else-not-inside-6) → Left 6 c.args.self
left6 c = left5 c.before.before ∙ pick_yes _ _ _ (passed (Natural 0 59 (pos c.args.self.second)) c.inside-6.result c.inside-6.ensures (ap not c.if-not-inside-6.false))

inside-requires : tie.Need-inside-requires
inside-requires c κs = search rules

returns : tie.Need-returns-then-not-inside
unfolding checked
returns c = sym (pick_no _ _ _ (failed (Natural 1900 2199 (pos c.args.self.year)) c.inside.result c.inside.ensures (ap not c.if-not-inside.true)))

inside-requires-2 : tie.Need-inside-requires-2
inside-requires-2 c κs = search rules

returns-2 : tie.Need-returns-then-not-inside-2
returns-2 c = sym (left1 c.before.before ∙ pick_no _ _ _ (failed (Natural 1 12 (pos c.args.self.month)) c.inside-2.result c.inside-2.ensures (ap not c.if-not-inside-2.true)))

cast-leap-flag : tie.Need-overflow_cast-year
cast-leap-flag c = search rules

leap-flag-requires : tie.Need-leap_flag-requires
leap-flag-requires c κs = search rules

cast-month-days : tie.Need-overflow_cast-month
cast-month-days c = search rules

sub-month-days : tie.Need-overflow_sub-month
sub-month-days c = (month_right c.before).0

month-days-requires : tie.Need-month_days-last-requires
month-days-requires c κs = (omega (arith, c.leap_flag.ensures, row_two c.args.self.year), omega (arith, month_right c.before))

inside-requires-3 : tie.Need-inside-requires-3
inside-requires-3 c κs = search rules

returns-3 : tie.Need-returns-then-not-inside-3
returns-3 c = sym (left2 c.before.before.before.before ∙ pick_no _ _ _ (failed (Natural 1 (month_days (row c.args.self.year) (c.args.self.month - 1)) (pos c.args.self.day)) c.inside-3.result (day_range c.before) (ap not c.if-not-inside-3.true)))

inside-requires-4 : tie.Need-inside-requires-4
inside-requires-4 c κs = search rules

returns-4 : tie.Need-returns-then-not-inside-4
returns-4 c = sym (left3 c.before.before ∙ pick_no _ _ _ (failed (Natural 0 23 (pos c.args.self.hour)) c.inside-4.result c.inside-4.ensures (ap not c.if-not-inside-4.true)))

inside-requires-5 : tie.Need-inside-requires-5
inside-requires-5 c κs = search rules

returns-5 : tie.Need-returns-then-not-inside-5
returns-5 c = sym (left4 c.before.before ∙ pick_no _ _ _ (failed (Natural 0 59 (pos c.args.self.minute)) c.inside-5.result c.inside-5.ensures (ap not c.if-not-inside-5.true)))

inside-requires-6 : tie.Need-inside-requires-6
inside-requires-6 c κs = search rules

returns-6 : tie.Need-returns-then-not-inside-6
returns-6 c = sym (left5 c.before.before ∙ pick_no _ _ _ (failed (Natural 0 59 (pos c.args.self.second)) c.inside-6.result c.inside-6.ensures (ap not c.if-not-inside-6.true)))

returns-7 : tie.Need-returns
returns-7 c = sym (left6 c)

pub first_wrong_spec : {M : Type 1} → statement M
first_wrong_spec = tie.close (tie.spec inside-requires returns inside-requires-2 returns-2 cast-leap-flag leap-flag-requires cast-month-days sub-month-days month-days-requires inside-requires-3 returns-3 inside-requires-4 returns-4 inside-requires-5 returns-5 inside-requires-6 returns-6 returns-7)
