-- `ask_why::causes::find` meets its contract.
use mathlib.Core.Path.{◌≡◌, sym, ap, ◌∙◌}
use native.Mathlib.Omega.{arith}
use Prim.Native.Nat.{◌+◌, ◌≤◌, ◌<◌}
use lib.ListN.{length, drop, get_or, drop_of_length-le}
use Rattle.std.specs.Prelude.{Option, None}
use Rattle.kit.proofs.ListLaws.{all_in}
use Rattle.ask_nodes.specs.declared.Weighed.{Weighed}
use Rattle.ask_nodes.specs.Value.{corner}
use Rattle.ask_sums.specs.Mean.{spread}
use Rattle.ask_sums.specs.Sums.{Reaches}
use Rattle.ask_sums.proofs.SumLaws.{eight_nodes}
use Rattle.ask_why.specs.Parts.{or_else, lacks, first}
use Rattle.ask_why.specs.declared.Lacking.{Lacking}
use Rattle.ask_why.proofs.NodeList.{few_maps, next_first}
use Rattle.ask_why.proofs.causes.find.Goals as goal
use Rattle.ask_why.proofs.causes.find.Goals.{After-look}

-- what a node says is said of the rest
here : (c : After-look) (f : Option Lacking) → c.look.result ≡ f → let a = c.args in
    or_else f (first a.s a.values.now a.exponents.now a.marks.now (drop (c.loop-k.k + 1) (spread a.shares a.first a.second))) ≡ first a.s a.values.now a.exponents.now a.marks.now (spread a.shares a.first a.second)
here c f e =
    let a = c.args in
    let ns = spread a.shares a.first a.second in
    let h : c.loop-k.k < length ns = omega (arith, eight_nodes a.shares a.first a.second, c.loop-k-test.true) in
    let t : f ≡ lacks a.s a.values.now a.exponents.now a.marks.now (get_or ns c.loop-k.k (corner 0 0 0 0)) =
    sym e ∙ c.look.ensures ∙ ap (λ (n : Weighed). lacks a.s a.values.now a.exponents.now a.marks.now n) c.nth_node-n.ensures in
    ap (λ (g : Option Lacking). or_else g (first a.s a.values.now a.exponents.now a.marks.now (drop (c.loop-k.k + 1) ns))) t ∙ sym (next_first a.s a.values.now a.exponents.now a.marks.now ns (corner 0 0 0 0) c.loop-k.k h) ∙ c.loop-k.invariant

pub look-requires : goal.look-requires
look-requires c =
    let a = c.args in
    let h : c.loop-k.k < length (spread a.shares a.first a.second) = omega (arith, eight_nodes a.shares a.first a.second, c.loop-k-test.true) in
    rw c.nth_node-n.ensures (
      all_in (λ (n : Weighed). n.map ≤ 1001) (spread a.shares a.first a.second) c.loop-k.k (corner 0 0 0 0) h (few_maps a.shares a.first a.second c.requires.map),
      all_in (Reaches a.values.now a.exponents.now a.marks.now a.s) (spread a.shares a.first a.second) c.loop-k.k (corner 0 0 0 0) h c.requires.reaches,
    )

pub returns-in-Some : goal.returns-in-Some
returns-in-Some c = here (goal.at.returns-in-Some c).After-look _ c.in-Some.is

pub loop-k-preserved : goal.loop-k-preserved
loop-k-preserved c = here (goal.at.loop-k-preserved c).After-look None c.in_default.is

pub returns : goal.returns
unfolding first
returns c =
    let a = c.args in
    let e : length (spread a.shares a.first a.second) ≤ c.loop-k.k = omega (arith, eight_nodes a.shares a.first a.second, c.loop-k-test.false) in
    rw (drop_of_length-le (spread a.shares a.first a.second) e) at c.loop-k.invariant
