use native.Mathlib.Omega.{arith}
use Rattle.read_lines.proofs.Firsts.{spans_last, spans_empty, spans_cr, spans_lf}
use Rattle.read_lines.proofs.span_in.Goals as goal

pub returns-then-text-e : goal.returns-then-text-e
returns-then-text-e c =
    spans_last _ _ c.requires.1 (omega arith) (omega arith)

pub returns-then-e-eq0 : goal.returns-then-e-eq0
returns-then-e-eq0 c =
    spans_empty _ _ c.requires.1 (omega arith) c.if-e-eq0.true

pub returns-then-text-e-eq13 : goal.returns-then-text-e-eq13
returns-then-text-e-eq13 c =
    spans_cr _ _ c.requires.1 (omega arith) (λ z. omega arith) c.if-text-e-eq13.true

pub returns : goal.returns
returns c =
    spans_lf _ _ c.requires.1 (omega arith) (λ z. omega arith) c.if-text-e-eq13.false
