use native.Mathlib.Omega.{arith}
use Rattle.head.proofs.OpenedLaws.{begins}
use Rattle.head.proofs.opening.header_from.Goals as goal

pub loop-record-init : goal.loop-record-init
loop-record-init c =
    let e = c.nothing-s.ensures in
    let b = begins c.nothing-s.result c.args.lines.now e.0 e.1 e.2 e.3 c.requires.2 in
    (omega arith, omega arith, b.0, b.1 _ _)
