-- `days::days_to_month` meets its contract. The loop's invariant: the days so far are those of the first k.
use native.Mathlib.Omega.{arith}
use mathlib.Core.Path.{refl, ap, ◌∙◌}
use Rattle.days.specs.Sums.{sum}
use Rattle.days.proofs.SumLaws.{sum_suc, sum_bound}
use Rattle.days.specs.Years.{month_days}
use Rattle.days.proofs.YearLaws.{month_le}
use Rattle.days.proofs.days_to_month.Goals as goal

pub loop-k-init : goal.loop-k-init
unfolding sum
loop-k-init c = refl

pub overflow_add-days : goal.overflow_add-days
overflow_add-days c =
    let k = c.loop-k.k in
    let r = c.args.leap in
    record { fits = omega (arith, c.month_days-days.ensures, month_le r k, sum_bound (month_days r) 31 (month_le r) k) }

pub loop-k-preserved : goal.loop-k-preserved
loop-k-preserved c = omega (arith, sum_suc (month_days c.args.leap) c.loop-k.k, c.month_days-days.ensures)

pub returns : goal.returns
returns c = c.loop-k.invariant ∙ ap (sum (month_days c.args.leap)) (omega arith)
