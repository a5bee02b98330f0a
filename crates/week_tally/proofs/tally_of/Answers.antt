-- `week_tally::tally_of` meets its contract.
use Rattle.std.proofs.Common.{◌≡◌, ℤ, ℕ, List, map, take, length, pos, get_or, rules, arith, refl, ap, ◌∙◌, ◌≤◌, w32, SFits, to_z, of_z}
use lib.Seq.{length-take-le, take_all}
use Rattle.std.proofs.lemmas.Int.{to_z-of_z}
use Rattle.std.specs.Prelude.{Option as Maybe}
use Rattle.ask_nodes.specs.declared.Value.{Value}
use Rattle.ask_nodes.specs.Nodes.{plain}
use Rattle.ask_nodes.specs.Units.{in_node, bare}
use Rattle.ask_nodes.specs.Value.{kind_of}
use Rattle.ask_nodes.proofs.NodeLaws.{small_plain, bare_node}
use Rattle.week_tally.specs.Figures.{figures, given, lacking, range, sum, nodes_in}
use Rattle.week_tally.proofs.FigureLaws.{figures_taken, bounded_numbers, nodes_numbers, fit_all}
use Rattle.week_tally.proofs.tally_of.Goals as goal

-- the node at hand
node_is : (v e : ℤ) (k : ℕ) {n : Maybe Value} → SFits w32 v → SFits w32 e → n ≡ in_node (kind_of k) (plain (to_z w32 (of_z w32 v)) (to_z w32 (of_z w32 e))) → bare n ≡ plain v e
node_is v e k f g p = ap bare (simp to_z-of_z at p) ∙ bare_node (kind_of k) (plain v e)

-- the nodes so far are as many as their numbers
nodes_taken : (e : ℤ) (vs : List ℤ) (i : ℕ) → i ≤ length vs → nodes_in (figures (map (λ v. plain v e) (take i vs))) ≡ i
nodes_taken e vs i h = nodes_numbers e (take i vs) ∙ length-take-le i vs h

pub loop-value-init : goal.loop-value-init
unfolding figures given lacking range sum
loop-value-init c = (refl, (refl, (refl, refl)))

pub with_node-s-requires : goal.with_node-s-requires
with_node-s-requires c =
    let l = c.loop-value in
    let e = c.args.exponent in
    let vs = c.args.values.now in
    let h = rw (to_z-of_z w32 e c.ranges.exponent) at l.invariant in
    let v = get_or vs l.value-index (pos 0) in
    let b = bounded_numbers e (take l.value-index vs) in
    let n = nodes_taken e vs l.value-index (omega arith) in
    ((omega (arith, h.0, n, c.requires), rw (h.0, h.1.0) b), rw (node_is v e c.args.kind (search rules) c.ranges.exponent c.node_of.ensures) (small_plain v e))

pub loop-value-preserved : goal.loop-value-preserved
loop-value-preserved c =
    let l = c.loop-value in
    let e = c.args.exponent in
    let vs = c.args.values.now in
    let q = to_z-of_z w32 e c.ranges.exponent in
    let h = rw q at l.invariant in
    let v = get_or vs l.value-index (pos 0) in
    let u = node_is v e c.args.kind (search rules) c.ranges.exponent c.node_of.ensures in
    let r = rw u at c.with_node-s.ensures (figures (map (λ v. plain v e) (take l.value-index vs))) h in
    rw (q, figures_taken (λ v. plain v e) vs (pos 0) l.value-index (omega arith)) r

pub tally_seen-requires : goal.tally_seen-requires
tally_seen-requires c =
    let l = c.loop-value in
    let e = c.args.exponent in
    let h = rw (to_z-of_z w32 e c.ranges.exponent) at l.invariant in
    omega (arith, h.0, nodes_taken e c.args.values.now l.value-index (omega arith))

pub returns : goal.returns
returns c =
    let l = c.loop-value in
    let e = c.args.exponent in
    let vs = c.args.values.now in
    let f = λ (v : ℤ). plain v e in
    let h = rw (to_z-of_z w32 e c.ranges.exponent) at l.invariant in
    let z : l.value-index ≡ length vs = omega arith in
    c.tally_seen.ensures (figures (map f (take l.value-index vs))) h (fit_all (map f (take l.value-index vs))) (nodes_taken e vs l.value-index (omega arith) ∙ z)
    ∙ ap (λ k. figures (map f (take k vs))) z ∙ ap (λ k. figures (map f k)) (take_all (length vs) vs (omega arith))
