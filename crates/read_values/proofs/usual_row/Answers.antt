use native.Mathlib.Omega.{arith}
use Rattle.read_values.proofs.QuickRows.{usual}
use Rattle.read_values.proofs.usual_row.Goals as goal

pub returns : goal.returns
returns c =
    let t = c.args.text.now in
    let m = c.args.m in
    usual t m c.in_ok-z.z c.requires.0 c.requires.1.0 (omega arith) c.in_ok-z.ensures c.fields_fit.result c.fields_fit.ensures c.if-not-fields_fit.false
