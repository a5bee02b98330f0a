use Rattle.std.proofs.Common.{◌≡◌, ◌+◌, ◌&&◌, drop}
use Rattle.layout.specs.Names.{holds}
use Rattle.labels.proofs.has_whole.Given as goal

abbrev pub invariant-loop-j : goal.invariant-loop-j
invariant-loop-j l = holds l.line 60 l.label ≡ (l.ok && holds l.line (60 + l.j) (drop l.j l.label))
