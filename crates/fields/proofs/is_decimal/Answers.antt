-- `fields::is_decimal` meets its contract.
use mathlib.Core.Path.{sym, ap, ◌∙◌}
use mathlib.Core.List.{List}
use Prim.Native.Nat.{ℕ, ◌+◌}
use native.Mathlib.Omega.{arith}
use lib.Seq.{length-take-le}
use Rattle.kit.proofs.ListLaws.{rest_of}
use Rattle.forms.specs.Form.{I}
use Rattle.forms.specs.Read.{read_field, is_number}
use Rattle.fields.proofs.Point.{point_at, decimal_short, decimal_judged}
use Rattle.fields.proofs.is_decimal.Goals as goal

pub returns-then-f-after : goal.returns-then-f-after
returns-then-f-after c = decimal_short _ c.requires _ c.if-f-after.true

pub slice_bounds-leads-end : goal.slice_bounds-leads-end
slice_bounds-leads-end c = sym (length-take-le _ _ (omega arith))

pub returns : goal.returns
returns c =
    let l = c.before.before.before in
    let i = l.before.before.before in
    let s = i.before in
    let f = s.args.f.now in
    decimal_judged s.args.after s.requires f c.if-f-after.false l.leads.result c.is_int.result l.leads.ensures
    (c.is_int.ensures ∙ ap (λ (l : List ℕ). is_number (read_field I l)) (rest_of f (point_at f s.args.after + 1)))
