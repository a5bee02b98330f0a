-- `ask_sums::sum_of` meets its contract.
use mathlib.Core.Path.{◌≡◌, refl, sym, ap, subst, ◌∙◌}
use native.Mathlib.Omega.{arith}
use Prim.Native.Nat.{ℕ, ◌+◌, ◌≤◌, ◌<◌}
use lib.ListN.{length, get_or, drop, drop_of_length-le}
use Rattle.std.specs.Prelude.{Option as Maybe, Some}
use Rattle.kit.proofs.ListLaws.{all_in}
use Rattle.ask_nodes.specs.Value.{kind_of, value, corner}
use Rattle.ask_sums.specs.Mean.{spread, terms}
use Rattle.ask_sums.specs.Sums.{Reaches, add_value, add_all}
use Rattle.ask_sums.proofs.SumLaws.{this_room, next_room, next_sum, all_lacks, start_room, eight_nodes}
use Rattle.ask_nodes.specs.declared.Weighed.{Weighed}
use Rattle.ask_cells.specs.declared.Cell.{Cell}
use Rattle.ask_spans.specs.declared.Shares.{Shares}
use Rattle.ask_sums.specs.declared.Sum.{Sum}
use Rattle.ask_sums.proofs.sum_of.Invariants.{Summed}
use Rattle.ask_sums.proofs.sum_of.Goals as goal
use Rattle.ask_sums.proofs.sum_of.Goals.{After-term}

some_left : (k : ℕ) (h : Shares) (first second : Cell) → k < 8 → k < length (spread h first second)
some_left k h first second l = omega (arith, eight_nodes h first second)

-- one node more
added : (c : After-term) → let a = c.args in let n = get_or (spread a.shares a.first a.second) c.loop-k.k (corner 0 0 0 0) in
    c.term.result ≡ add_value (kind_of a.s.kind) (Some c.loop-k.sum) n.weight (value a.s a.values.now a.exponents.now a.marks.now n)
added c =
    let a = c.args in
    c.term.ensures ∙ ap (λ (n : Weighed). add_value (kind_of a.s.kind) (Some c.loop-k.sum) n.weight (value a.s a.values.now a.exponents.now a.marks.now n)) c.nth_node-n.ensures

pub loop-k-init : goal.loop-k-init
loop-k-init c =
    let a = c.args in
    subst (Summed a.s a.values.now a.exponents.now a.marks.now (spread a.shares a.first a.second) 0) (sym c.empty-sum.ensures) (start_room (kind_of a.s.kind) _ c.requires.weights, refl)

pub term-requires : goal.term-requires
term-requires c =
    let a = c.args in
    let k = c.loop-k.k in
    let h = some_left k a.shares a.first a.second c.loop-k-test.true in
    rw c.nth_node-n.ensures (
      this_room a.s a.values.now a.exponents.now a.marks.now (spread a.shares a.first a.second) (corner 0 0 0 0) k h (Some c.loop-k.sum) c.loop-k.invariant.0,
      all_in (Reaches a.values.now a.exponents.now a.marks.now a.s) (spread a.shares a.first a.second) k (corner 0 0 0 0) h c.requires.reaches,
    )

-- once a node has no value, the rest adds nothing
pub returns-in_err-sum : goal.returns-in_err-sum
returns-in_err-sum c =
    let a = c.args in
    let k = c.loop-k.k in
    let h = some_left k a.shares a.first a.second c.loop-k-test.true in
    let ns = spread a.shares a.first a.second in
    let rest = terms a.s a.values.now a.exponents.now a.marks.now (drop (k + 1) ns) in
    c.from_residual.ensures ∙ sym (all_lacks (kind_of a.s.kind) rest) ∙ ap (λ (s : Maybe Sum). add_all (kind_of a.s.kind) s rest) (sym c.in_err-sum.was ∙ added (goal.at.returns-in_err-sum c).After-term)
    ∙ next_sum a.s a.values.now a.exponents.now a.marks.now ns (corner 0 0 0 0) k h (Some c.loop-k.sum) ∙ c.loop-k.invariant.1

pub loop-k-preserved : goal.loop-k-preserved
loop-k-preserved c =
    let a = c.args in
    let k = c.loop-k.k in
    let h = some_left k a.shares a.first a.second c.loop-k-test.true in
    let ns = spread a.shares a.first a.second in
    subst (Summed a.s a.values.now a.exponents.now a.marks.now ns (k + 1)) (sym (added (goal.at.loop-k-preserved c).After-term) ∙ c.in_ok-sum.was) (
      next_room a.s a.values.now a.exponents.now a.marks.now ns (corner 0 0 0 0) k h (Some c.loop-k.sum) c.loop-k.invariant.0,
      next_sum a.s a.values.now a.exponents.now a.marks.now ns (corner 0 0 0 0) k h (Some c.loop-k.sum) ∙ c.loop-k.invariant.1,
    )

pub returns : goal.returns
unfolding add_all terms
returns c =
    let a = c.args in
    let e : length (spread a.shares a.first a.second) ≤ c.loop-k.k = omega (arith, eight_nodes a.shares a.first a.second, c.loop-k-test.false) in
    rw (drop_of_length-le (spread a.shares a.first a.second) e) at c.loop-k.invariant.1
