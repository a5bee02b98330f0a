use mathlib.Core.Path.{◌≡◌}
use lib.ListN.{drop}
use Rattle.ask_sums.specs.Mean.{spread}
use Rattle.ask_why.specs.Parts.{first}
use Rattle.ask_why.proofs.causes.find.Given as goal

abbrev pub invariant-loop-k : goal.invariant-loop-k
invariant-loop-k l = first l.s l.values l.exponents l.marks (drop l.k (spread l.shares l.first l.second)) ≡ first l.s l.values l.exponents l.marks (spread l.shares l.first l.second)
