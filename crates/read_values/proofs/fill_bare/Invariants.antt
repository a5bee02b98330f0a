use Rattle.std.proofs.Common.{◌*◌, take}
use Rattle.read_values.specs.Bare.{Paired}
use Rattle.read_values.proofs.ValueLaws.{Put}
use Rattle.read_values.proofs.fill_bare.Given as goal

abbrev pub invariant-loop-k : goal.invariant-loop-k
invariant-loop-k l = Paired l.line l.p (l.m * 5) × Put (take (l.m * 5) l.line) l.m l.k l.out
