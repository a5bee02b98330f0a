use Rattle.std.proofs.Common.{◌≡◌, length}
use Rattle.read_values.specs.Bare.{Paired}
use Rattle.read_values.proofs.sixteen_pairs.Given as goal

abbrev pub invariant-loop-j : goal.invariant-loop-j
invariant-loop-j l = (length l.p ≡ 80) × Paired l.line l.p l.j
