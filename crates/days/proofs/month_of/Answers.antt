-- `days::month_of` meets its contract. The loop's invariant: the days are the rest past those of the first k.
use native.Mathlib.Omega.{arith}
use mathlib.Core.Path.{◌≡◌}
use Prim.Native.Nat.{◌+◌}
use Rattle.days.specs.Sums.{sum}
use Rattle.days.proofs.SumLaws.{sum_suc}
use Rattle.days.specs.Years.{month_days}
use Rattle.days.proofs.month_of.Goals as goal

pub loop-k-init : goal.loop-k-init
unfolding sum
loop-k-init c = omega arith

pub returns-then-rest-n : goal.returns-then-rest-n
returns-then-rest-n c = (omega arith, record { at = c.loop-k.invariant; less = omega (arith, c.month_days-n.ensures) })

pub loop-k-preserved : goal.loop-k-preserved
loop-k-preserved c = omega (arith, sum_suc (month_days c.args.leap) c.loop-k.k, c.month_days-n.ensures)

pub returns : goal.returns
returns c =
    let k : c.loop-k.k ≡ 11 = omega arith in
    let m : c.args.days ≡ sum (month_days c.args.leap) 11 + c.loop-k.rest = rw (← k) c.loop-k.invariant in
    (omega arith, record { at = m; less = omega (arith, m, sum_suc (month_days c.args.leap) 11, c.requires.1) })
