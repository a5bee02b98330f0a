use Rattle.std.proofs.Common.{◌≡◌, ◌+◌, drop}
use Rattle.layout.specs.Names.{names, place_of}
use Rattle.labels.proofs.search.Given as goal

abbrev pub invariant-loop-k : goal.invariant-loop-k
invariant-loop-k l = l.k + place_of l.line 60 (drop l.k names) ≡ place_of l.line 60 names
