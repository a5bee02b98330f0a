-- `c_why::put_node` meets its contract.
use borrow.Author.Rules.{rules}
use mathlib.Core.Path.{◌≡◌}
use Prim.Native.Nat.{suc, ◌+◌}
use native.Mathlib.Omega.{arith}
use lib.IntN.{pos}
use lib.ListN.{set, length-set}
use mir.Syntax.{w64}
use mir.Val.{to_z, of_z}
use Rattle.ask_nodes.specs.Units.{bare}
use Rattle.ask_nodes.specs.Value.{or_zero}
use Rattle.kit.proofs.SetLaws.{sets_three}
use Rattle.c_header.proofs.SetLaws.{back}
use Rattle.c_why.proofs.put_node.Goals as goal

pub bounds-out-at-2 : goal.bounds-out-at-2
bounds-out-at-2 c = simp length-set (search rules)

pub bounds-out-at-3 : goal.bounds-out-at-3
bounds-out-at-3 c = simp length-set (search rules)

pub bounds-out-at-4 : goal.bounds-out-at-4
bounds-out-at-4 c = simp length-set (search rules)

pub bounds-out-at-5 : goal.bounds-out-at-5
bounds-out-at-5 c = simp length-set (search rules)

pub bounds-out-at-6 : goal.bounds-out-at-6
bounds-out-at-6 c = simp length-set (search rules)

pub shape_of-out : goal.shape_of-out
shape_of-out c = simp length-set (search rules)

pub returns : goal.returns
returns c =
    let s = c.before.before.before.before.before.before in
    let at = s.args.at in
    let n = s.args.n in
    let r : at + 3 ≡ suc (suc (suc at)) = omega arith in
    let u : at + 4 ≡ suc (suc (suc (suc at))) = omega arith in
    let w : at + 5 ≡ suc (suc (suc (suc (suc at)))) = omega arith in
    let a : to_z w64 (of_z w64 c.whole.result) ≡ pos n.map = back (record { sfits = c.whole.type_inv }) c.whole.ensures in
    let b : to_z w64 (of_z w64 c.whole-2.result) ≡ pos n.layer = back (record { sfits = c.whole-2.type_inv }) c.whole-2.ensures in
    let d : to_z w64 (of_z w64 c.whole-3.result) ≡ pos n.row = back (record { sfits = c.whole-3.type_inv }) c.whole-3.ensures in
    let f : to_z w64 (of_z w64 c.whole-4.result) ≡ pos n.column = back (record { sfits = c.whole-4.type_inv }) c.whole-4.ensures in
    let g : to_z w64 (of_z w64 c.thousandths.result) ≡ or_zero (bare n.value) = back (record { sfits = c.thousandths.type_inv }) c.thousandths.ensures in
    let h : to_z w64 (of_z w64 c.whole-5.result) ≡ pos n.weight = back (record { sfits = c.whole-5.type_inv }) c.whole-5.ensures in
    λ i. set (set (set (sets_three s.args.out.now at a b d i) (r i) (f i)) (u i) (g i)) (w i) (h i)
