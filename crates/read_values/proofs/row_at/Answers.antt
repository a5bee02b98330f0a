use native.Mathlib.Omega.{arith}
use Rattle.read_values.proofs.ValueLaws.{judged}
use Rattle.read_values.proofs.QuickRows.{fit_row}
use Rattle.read_values.proofs.row_at.Goals as goal

pub returns : goal.returns
returns c =
    let p = fit_row c.args.text.now c.args.at c.args.width c.args.m (omega arith) (omega arith) (omega arith) (omega arith) c.fields_fit.result c.fields_fit.ensures c.if-not-fields_fit.false in
    judged _ c.args.m p c.rest_in.result c.rest_in.ensures
