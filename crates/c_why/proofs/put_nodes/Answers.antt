-- `c_why::put_nodes` meets its contract.
use mathlib.Core.Path.{ap, ◌∙◌}
use mathlib.Core.List.{List}
use Prim.Native.Nat.{◌+◌, ◌*◌, ◌≤◌, ◌<◌}
use native.Mathlib.Omega.{arith}
use lib.IntN.{ℤ}
use lib.ListN.{length, drop, get_or, drop_of_length-le}
use lib.Seq.{sets, length-sets}
use Rattle.kit.proofs.ListLaws.{all_in}
use Rattle.std.specs.Prelude.{None}
use Rattle.ask_why.specs.declared.Needed.{Needed}
use Rattle.c_why.specs.ExplainExported.{node_numbers, all_numbers, SmallNode}
use Rattle.c_why.proofs.CrossLaws.{next_node}
use Rattle.c_why.proofs.put_nodes.Goals as goal

-- what an array holds before anything is put there
abbrev unset : Needed
unset = record { map = 0; layer = 0; row = 0; column = 0; value = None; weight = 0 }

pub put_node-requires : goal.put_node-requires
put_node-requires c =
    let h : c.loop-i.i < length c.args.e.nodes = omega (arith, c.requires.1.0, c.loop-i-test.true) in
    (omega (arith, c.loop-i.invariant.0, c.requires.0, c.loop-i-test.true), all_in SmallNode c.args.e.nodes c.loop-i.i unset h c.requires.1.1)

pub loop-i-preserved : goal.loop-i-preserved
loop-i-preserved c =
    let l = c.loop-i in
    let ns = c.args.e.nodes in
    let p = c.put_node.ensures in
    let h : l.i < length ns = omega (arith, c.requires.1.0, c.loop-i-test.true) in (
      ap length p ∙ length-sets l.out (3 + 6 * l.i) (node_numbers (get_or ns l.i unset)) ∙ l.invariant.0,
      ap (λ (o : List ℤ). sets o (3 + 6 * (l.i + 1)) (all_numbers (drop (l.i + 1) ns))) p ∙ next_node ns unset l.i h l.out ∙ l.invariant.1,
    )

pub returns : goal.returns
returns c =
    let e : length c.args.e.nodes ≤ c.loop-i.i = omega (arith, c.requires.1.0, c.loop-i-test.false) in
    rw (drop_of_length-le c.args.e.nodes e) at c.loop-i.invariant.1
