use Rattle.read_values.specs.Values.{Passed}
use Rattle.read_values.proofs.values_in.Given as goal

abbrev pub invariant-loop-k : goal.invariant-loop-k
invariant-loop-k l = Passed l.line l.m l.k
