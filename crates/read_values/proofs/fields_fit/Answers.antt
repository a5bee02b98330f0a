use native.Mathlib.Omega.{arith}
use Prim.Native.Nat.{◌+◌, ◌-◌}
use Rattle.read_values.proofs.QuickRows.{stand_on}
use Rattle.read_values.proofs.fields_fit.Goals as goal

pub loop-a-preserved : goal.loop-a-preserved
loop-a-preserved c =
    let s = c.sixteen_from-s.result in
    let e = c.sixteen_from-s.ensures in
    (e.1.1, stand_on c.args.text.now c.args.ends.now c.requires.1.1 c.loop-a.a s (s + 17 - s) e.0 (omega arith) c.loop-a.invariant.1 c.sixteen_stand-ok.result c.sixteen_stand-ok.ensures c.if-not-ok.false)
