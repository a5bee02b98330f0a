use Rattle.head_step.proofs.StepLaws.{aux_is, unknown_is}
use Rattle.head_step.proofs.step.Goals as goal

pub returns-then-s : goal.returns-then-s
returns-then-s c =
    let a = c.args in
    aux_is a.s.now a.version a.lines.now a.line.now c.requires.0 c.requires.1 c.if-s.true c.label_of-k.result c.label_of-k.ensures

pub returns-then-k-ge32 : goal.returns-then-k-ge32
returns-then-k-ge32 c =
    let a = c.args in
    unknown_is a.s.now a.version a.lines.now a.line.now c.requires.0 c.requires.1 c.if-s.false (rw c.label_of-k.ensures at c.if-k-ge32.true)
