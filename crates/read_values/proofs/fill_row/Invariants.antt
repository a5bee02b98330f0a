use Rattle.read_values.proofs.ValueLaws.{Put}
use Rattle.read_values.proofs.fill_row.Given as goal

abbrev pub invariant-loop-k : goal.invariant-loop-k
invariant-loop-k l = Put l.line l.m l.k l.out
