use native.Mathlib.Omega.{arith}
use Prim.Native.Nat.{◌+◌, ◌-◌}
use Rattle.read_values.proofs.BareRows.{bare_on}
use Rattle.read_values.proofs.all_bare.Goals as goal

pub loop-a-preserved : goal.loop-a-preserved
loop-a-preserved c =
    let s = c.sixteen_from-s.result in
    let e = c.sixteen_from-s.ensures in
    (e.1.1, bare_on c.args.text.now c.loop-a.a s (s + 16 - s) e.0 (omega arith) c.loop-a.invariant.1 c.sixteen_bare.result c.sixteen_bare.ensures c.if-not-sixteen_bare.false)
