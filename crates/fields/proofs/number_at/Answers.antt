-- `fields::number_at` meets its contract.
use mathlib.Core.Path.{◌∙◌}
use native.Mathlib.Omega.{arith}
use Rattle.fields.proofs.Lines.{short, whole}
use Rattle.fields.proofs.Point.{dot_most}
use Rattle.fields.proofs.number_at.Goals as goal

pub overflow_add-e : goal.overflow_add-e
overflow_add-e c = omega (arith, dot_most c.args.after)

pub returns-then-line-e : goal.returns-then-line-e
returns-then-line-e c = short _ _ _ _ c.if-line-e.true

pub returns : goal.returns
returns c =
    let i = c.before.before in
    let s = i.before.before in
    c.read_number.ensures ∙ whole s.args.after s.args.line.now s.args.a s.args.n i.if-line-e.false
