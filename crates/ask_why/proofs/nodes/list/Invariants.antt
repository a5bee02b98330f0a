use mathlib.Core.Path.{◌≡◌}
use Prim.Native.Nat.{◌≤◌}
use lib.ListN.{drop}
use Rattle.ask_sums.specs.Mean.{spread}
use Rattle.ask_why.specs.Parts.{none_listed, collect}
use Rattle.ask_why.proofs.nodes.list.Given as goal

abbrev pub invariant-loop-k : goal.invariant-loop-k
invariant-loop-k l =
    (l.l.count ≤ l.k) × (collect l.s l.values l.exponents l.marks l.l (drop l.k (spread l.shares l.first l.second)) ≡ collect l.s l.values l.exponents l.marks none_listed (spread l.shares l.first l.second))
