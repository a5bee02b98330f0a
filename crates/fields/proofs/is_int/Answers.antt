-- `fields::is_int` meets its contract: so far all is well, and the neighbours from here on decide.
use mathlib.Core.Path.{◌≡◌, refl, sym, ◌∙◌}
use mathlib.Core.List.{[]}
use Prim.Native.Nat.{◌-◌}
use native.Mathlib.Omega.{arith}
use lib.ListN.{length}
use Rattle.fields.proofs.Judged.{int_judged}
use Rattle.fields.proofs.Steps.{well_next, well_end, drop_end}
use Rattle.fields.proofs.is_int.Goals as goal

pub returns-then-f-eq0 : goal.returns-then-f-eq0
returns-then-f-eq0 c = rw (drop_end c.args.f.now 0 (omega arith)) (int_judged [])

pub loop-i-init : goal.loop-i-init
loop-i-init c = refl

pub loop-i-preserved : goal.loop-i-preserved
loop-i-preserved c =
    let f = c.args.f.now in
    rw c.may_precede-ok.ensures (c.loop-i.invariant ∙ well_next f c.loop-i.i c.loop-i.ok (omega arith))

pub returns : goal.returns
returns c =
    let f = c.args.f.now in
    let e : c.loop-i.i ≡ length f - 1 = omega arith in
    rw (c.is_digit.ensures, ← e) (sym (well_end f _ c.loop-i.ok (omega arith)) ∙ sym c.loop-i.invariant ∙ int_judged f)
