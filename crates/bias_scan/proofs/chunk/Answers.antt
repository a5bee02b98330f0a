-- `bias_scan::chunk` meets its contract.
use mathlib.Core.Path.{sym, subst}
use Prim.Native.Nat.{ℕ}
use native.Mathlib.Omega.{arith}
use lib.ListN.{take}
use lib.Seq.{length-take-le}
use Rattle.bias_scan.specs.Held.{Fence}
use Rattle.bias_scan.proofs.chunk.Goals as goal

pub returns-then-c-lt2048 : goal.returns-then-c-lt2048
returns-then-c-lt2048 c =
    let e = c.collect-c.ensures in
    record { stood = e.0; good = e.1; bound = omega (arith, e.4, e.7); clear = λ h. absurd (omega arith); less = omega (arith, e.3, e.4, e.7) }

pub slice_bounds-starts-end : goal.slice_bounds-starts-end
slice_bounds-starts-end c = let e = c.collect-c.ensures in omega (arith, e.5, e.6)

pub slice_bounds-check-end : goal.slice_bounds-check-end
slice_bounds-check-end c = let e = c.collect-c.ensures in sym (length-take-le _ _ (omega (arith, e.5, e.6)))

pub check-limit-requires : goal.check-limit-requires
check-limit-requires c =
    let a = c.args in
    let r = c.collect-c in
    let e = r.ensures in
    (e.0, e.1, subst (λ (l : ℕ). Fence a.text.now r.result.rows l (take r.result.count r.new.starts)) (sym e.7) e.2, omega (arith, e.4, e.7), e.8)

pub returns : goal.returns
returns c =
    let e = c.collect-c.ensures in
    let k = c.check-limit.ensures in
    record { stood = e.0; good = e.1; bound = k.1; clear = λ h. k.0; less = omega (arith, e.3, e.4, e.6, e.7, k.1, k.2) }
