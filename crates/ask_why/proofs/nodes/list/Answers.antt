-- `ask_why::nodes::list` meets its contract.
use mathlib.Core.Path.{◌≡◌, refl, ap, ◌∙◌}
use native.Mathlib.Omega.{arith}
use Prim.Native.Nat.{◌≤◌, ◌<◌}
use lib.ListN.{length, get_or, drop_of_length-le}
use Rattle.kit.proofs.ListLaws.{all_in}
use Rattle.ask_nodes.specs.declared.Weighed.{Weighed}
use Rattle.ask_nodes.specs.Value.{corner}
use Rattle.ask_sums.specs.Mean.{spread}
use Rattle.ask_sums.specs.Sums.{Reaches}
use Rattle.ask_sums.proofs.SumLaws.{eight_nodes}
use Rattle.ask_why.specs.Parts.{add, collect}
use Rattle.ask_why.proofs.NodeList.{few_maps, add_count, next_collected}
use Rattle.ask_why.proofs.nodes.list.Goals as goal

pub loop-k-init : goal.loop-k-init
loop-k-init c = rw c.empty-l.ensures (omega arith, refl)

pub add-requires : goal.add-requires
add-requires c =
    let a = c.args in
    let h : c.loop-k.k < length (spread a.shares a.first a.second) = omega (arith, eight_nodes a.shares a.first a.second, c.loop-k-test.true) in
    rw c.nth_node.ensures (
      omega (arith, c.loop-k.invariant.0, c.loop-k-test.true),
      (
        all_in (λ (n : Weighed). n.map ≤ 1001) (spread a.shares a.first a.second) c.loop-k.k (corner 0 0 0 0) h (few_maps a.shares a.first a.second c.requires.map),
        all_in (Reaches a.values.now a.exponents.now a.marks.now a.s) (spread a.shares a.first a.second) c.loop-k.k (corner 0 0 0 0) h c.requires.reaches,
      ),
    )

pub loop-k-preserved : goal.loop-k-preserved
loop-k-preserved c =
    let a = c.args in
    let ns = spread a.shares a.first a.second in
    let h : c.loop-k.k < length ns = omega (arith, eight_nodes a.shares a.first a.second, c.loop-k-test.true) in
    let t : c.add.new.l ≡ add a.s a.values.now a.exponents.now a.marks.now c.loop-k.l (get_or ns c.loop-k.k (corner 0 0 0 0)) =
    c.add.ensures ∙ ap (λ (n : Weighed). add a.s a.values.now a.exponents.now a.marks.now c.loop-k.l n) c.nth_node.ensures in (
      rw t (omega (arith, c.loop-k.invariant.0, add_count a.s a.values.now a.exponents.now a.marks.now c.loop-k.l (get_or ns c.loop-k.k (corner 0 0 0 0)))),
      rw t (next_collected a.s a.values.now a.exponents.now a.marks.now ns (corner 0 0 0 0) c.loop-k.k h c.loop-k.l) ∙ c.loop-k.invariant.1,
    )

pub returns : goal.returns
unfolding collect
returns c =
    let a = c.args in
    let e : length (spread a.shares a.first a.second) ≤ c.loop-k.k = omega (arith, eight_nodes a.shares a.first a.second, c.loop-k-test.false) in
    rw (drop_of_length-le (spread a.shares a.first a.second) e) at c.loop-k.invariant.1
