use mathlib.Core.Path.{refl}
use native.Mathlib.Omega.{arith}
use Prim.Native.Nat.{◌-◌, ◌*◌}
use Rattle.read_values.proofs.BareRows.{bare_row_of}
use Rattle.read_values.proofs.bare_row.Goals as goal

pub returns : goal.returns
returns c =
    let t = c.args.text.now in
    let m = c.args.m in
    bare_row_of t m c.in_ok-z.z (m * 5 - 1) c.requires.0 c.requires.1 (omega arith) c.in_ok-z.ensures refl (omega arith) c.all_bare.result c.all_bare.ensures c.if-not-all_bare.false
