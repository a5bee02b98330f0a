use Rattle.std.proofs.Common.{◌≡◌, ◌+◌, drop}
use Rattle.layout.specs.Names.{holds}
use Rattle.labels.proofs.has.Given as goal

abbrev pub invariant-loop-j : goal.invariant-loop-j
invariant-loop-j l = holds l.line (l.a + l.j) (drop l.j l.wanted) ≡ holds l.line l.a l.wanted
