-- `c_why::put_numbers` meets its contract.
use borrow.Author.Rules.{rules}
use mathlib.Core.Path.{◌≡◌, ap, ◌∙◌}
use native.Mathlib.Omega.{arith}
use Prim.Native.Nat.{◌≤◌}
use lib.IntN.{pos}
use lib.ListN.{length, set, length-set}
use lib.Seq.{sets, length-sets}
use mir.Syntax.{w64}
use mir.Val.{to_z, of_z}
use mir.Facts.{to_z-of_z}
use Rattle.c_header.proofs.SetLaws.{back, sets_front}
use Rattle.c_why.specs.ExplainExported.{all_numbers, numbers}
use Rattle.c_why.proofs.CrossLaws.{numbers_length}
use Rattle.c_why.proofs.put_numbers.Statement.{statement}
use Rattle.c_why.proofs.put_numbers.Tie as tie

module _ (c : tie.After-put_nodes) where
  abbrev start : tie.Start
  start = c.before.before.before.before.before

  counted : to_z w64 (of_z w64 c.whole.result) ≡ pos start.args.e.count
  counted = back (record { sfits = c.whole.type_inv }) c.whole.ensures

  common : to_z w64 (of_z w64 c.whole-2.result) ≡ pos start.args.e.denominator
  common = back (record { sfits = c.whole-2.type_inv }) c.whole-2.ensures

  valued : to_z w64 (of_z w64 c.wide.result) ≡ start.args.value
  valued = back (record { sfits = c.wide.type_inv }) (c.wide.ensures ∙ to_z-of_z start.ranges.value)

  all_put : c.put_nodes.new.out ≡ sets start.args.out.now 0 (numbers start.args.e start.args.value)
  all_put = c.put_nodes.ensures ∙ (λ i. sets (set (set (set start.args.out.now 0 (counted i)) 1 (common i)) 2 (valued i)) 3 (all_numbers start.args.e.nodes))

whole-requires : tie.Need-whole-requires
whole-requires c κs = search rules

slice-set-from-out : tie.Need-bounds-out-0
slice-set-from-out c = search rules

whole-requires-2 : tie.Need-whole-requires-2
whole-requires-2 c κs = search rules

slice-set-from-out-2 : tie.Need-bounds-out-1
slice-set-from-out-2 c = simp length-set (search rules)

wide-requires : tie.Need-wide-requires
wide-requires c κs = search rules

slice-set-from-out-3 : tie.Need-bounds-out-2
slice-set-from-out-3 c = simp length-set (search rules)

put-nodes-requires : tie.Need-put_nodes-requires
put-nodes-requires c κs = let s = c.before.before.before.before in (simp length-set s.requires.0, s.requires.1.1.1)

same_length : tie.Need-shape_of-out
same_length c = let k = c.before in ap length (all_put k) ∙ length-sets (start k).args.out.now 0 (numbers (start k).args.e (start k).args.value)

returns : tie.Need-returns
returns c =
    let k = c.before in
    let s = start k in
    let n : length s.args.e.nodes ≡ 8 = s.requires.1.1.1.0 in
    let m : length (numbers s.args.e s.args.value) ≤ length s.args.out.now = omega (arith, numbers_length s.args.e.nodes, n, s.requires.0) in
    all_put k ∙ sets_front (numbers s.args.e s.args.value) s.args.out.now m

pub put_numbers_spec : {M : Type 1} → statement M
put_numbers_spec = tie.close (tie.spec whole-requires slice-set-from-out whole-requires-2 slice-set-from-out-2 wide-requires slice-set-from-out-3 put-nodes-requires same_length returns)
