use mathlib.Core.List.{List}
use mathlib.Core.Path.{◌≡◌}
use Prim.Native.Nat.{ℕ}
use lib.IntN.{ℤ}
use lib.ListN.{drop}
use Rattle.std.specs.Prelude.{Option as Maybe, Some}
use Rattle.ask_nodes.specs.Value.{kind_of}
use Rattle.ask_nodes.specs.declared.Shape.{Shape}
use Rattle.ask_nodes.specs.declared.Weighed.{Weighed}
use Rattle.ask_sums.specs.Mean.{spread, terms, weight}
use Rattle.ask_sums.specs.Sums.{SumRoom, add_all, sum_all}
use Rattle.ask_sums.specs.declared.Sum.{Sum}
use Rattle.ask_sums.proofs.sum_of.Given as goal

-- with the nodes from k on the sum comes to that of all, and there is room for them
abbrev pub Summed : Shape → (vs ks : List ℤ) (ms : List ℕ) (ns : List Weighed) → ℕ → Maybe Sum → Type 0
Summed s vs ks ms ns k t =
    SumRoom t (weight (terms s vs ks ms (drop k ns))) × (add_all (kind_of s.kind) t (terms s vs ks ms (drop k ns)) ≡ sum_all (kind_of s.kind) (terms s vs ks ms ns))

abbrev pub invariant-loop-k : goal.invariant-loop-k
invariant-loop-k l = Summed l.s l.values l.exponents l.marks (spread l.shares l.first l.second) l.k (Some l.sum)
