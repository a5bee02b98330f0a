use native.Mathlib.Omega.{arith}
use mathlib.Core.Path.{ap, sym, ◌∙◌}
use Prim.Native.Nat.{◌*◌}
use Rattle.kit.specs.Answer.{refused}
use Rattle.kit.proofs.ListLaws.{rest_of}
use Rattle.read_lines.specs.Lines.{passing, blank?}
use Rattle.read_values.proofs.ValueLaws.{rest_none, rest_fine, rest_wrong, rest_le}
use Rattle.read_values.proofs.rest_in.Goals as goal

pub returns-then-line-a : goal.returns-then-line-a
returns-then-line-a c = rest_none _ _ (omega arith)

pub overflow_add-a : goal.overflow_add-a
overflow_add-a c =
    let l = c.args.line.now in
    let e = c.blanks_in-b.ensures ∙ ap (passing blank?) (rest_of l (c.args.m * 5)) in
    let h = rest_le l c.args.m _ e (omega arith) in
    omega arith

pub returns-then-a-b : goal.returns-then-a-b
returns-then-a-b c =
    let l = c.args.line.now in
    let e = c.blanks_in-b.ensures ∙ ap (passing blank?) (rest_of l (c.args.m * 5)) in
    rest_wrong l c.args.m _ e (omega arith) (omega arith) ∙ ap refused (sym c.ill_formed.ensures)

pub returns : goal.returns
returns c =
    let l = c.args.line.now in
    let e = c.blanks_in-b.ensures ∙ ap (passing blank?) (rest_of l (c.args.m * 5)) in
    rest_fine l c.args.m _ e (omega arith) (omega arith)
