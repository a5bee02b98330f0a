-- The bytes of a row up to its last non-blank one: what stands in front ends where the row ends.
use mathlib.Core.Path.{◌≡◌, sym, ap, ◌∙◌}
use native.Mathlib.Omega.{arith}
use Prim.Native.Nat.{◌+◌, ◌-◌}
use lib.Seq.{take-length}
use Rattle.canonical.specs.Canon.{trimmed}
use Rattle.write_line.proofs.LineLaws.{one_less, ends_here}
use Rattle.write_line.proofs.shown.Goals as goal

pub loop-n-init : goal.loop-n-init
loop-n-init c = ap trimmed (take-length _)

pub returns-then-row-n-ne32 : goal.returns-then-row-n-ne32
returns-then-row-n-ne32 c =
    let l = c.loop-n in
    let e : l.n - 1 + 1 ≡ l.n = omega (arith, c.loop-n-test.true) in
    rw e (l.auto.n, sym (ends_here _ l.n c.loop-n-test.true l.auto.n c.if-row-n-ne32.true) ∙ l.invariant)

pub loop-n-preserved : goal.loop-n-preserved
loop-n-preserved c = let l = c.loop-n in one_less _ l.n c.loop-n-test.true l.auto.n c.if-row-n-ne32.false ∙ l.invariant

pub returns : goal.returns
unfolding trimmed
returns c = let z : c.loop-n.n ≡ 0 = omega arith in (omega arith, rw z at c.loop-n.invariant)
