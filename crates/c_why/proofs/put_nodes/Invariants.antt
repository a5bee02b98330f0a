use mathlib.Core.Path.{◌≡◌}
use Prim.Native.Nat.{◌+◌, ◌*◌}
use lib.ListN.{length, drop}
use lib.Seq.{sets}
use Rattle.c_why.specs.ExplainExported.{all_numbers}
use Rattle.c_why.proofs.put_nodes.Given as goal

abbrev pub invariant-loop-i : goal.invariant-loop-i
invariant-loop-i l = (length l.out ≡ length l.initial.out) × (sets l.out (3 + 6 * l.i) (all_numbers (drop l.i l.nodes)) ≡ sets l.initial.out 3 (all_numbers l.nodes))
