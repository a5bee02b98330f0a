-- `ask_nodes::node_of` meets its contract.
use borrow.Author.Rules.{rules}
use mathlib.Core.Path.{◌≡◌, sym, ap, ◌∙◌}
use mathlib.Core.Bool.{false}
use native.Mathlib.Omega.{arith}
use lib.IntN.{ℤ, pos, negsuc, ◌*ℤ◌}
use lib.Signed.{lt_z}
use mir.Syntax.{w32}
use mir.Val.{to_z, of_z, SFits}
use mir.Facts.{to_z-of_z}
use Rattle.std.specs.Prelude.{Some}
use Rattle.kit.specs.Integer.{Between}
use Rattle.kit.proofs.Parts.{le_parts, parts_le, lt_true, lt_false, size_fits, from_bits}
use Rattle.ask_nodes.specs.Value.{kind_of}
use Rattle.ask_nodes.specs.Nodes.{power_of}
use Rattle.ask_nodes.specs.Units.{in_node}
use Rattle.ask_nodes.proofs.NodeLaws.{plain_none, plain_no_power, plain_some, power_size, tecu_node, km_node}
use Rattle.ask_nodes.proofs.node_of.Goals as goal
use Rattle.ask_nodes.proofs.node_of.Goals.{then-v-ltminus9999-via-then-v-ltminus9999, then-v-ltminus9999-via-else-v-ltminus9999+then-v-gt99999}

-- a number that every test let pass
module _ (v k p : ℤ) (fv : SFits w32 v) (fp : SFits w32 p) (e : power_of k ≡ Some p) (low : lt_z v (negsuc 9998) ≡ false) (high : lt_z (pos 99999) v ≡ false) where
  range : Between (negsuc 9998) (pos 99999) v
  range =
      record {
        from = le_parts (negsuc 9998) v (omega (arith, lt_false v (negsuc 9998) low));
        to = le_parts v (pos 99999) (omega (arith, lt_false (pos 99999) v high));
      }

  product : to_z w32 (of_z w32 (to_z w32 (of_z w32 p) *ℤ to_z w32 (of_z w32 v))) ≡ p *ℤ v
  product = rw (to_z-of_z fp, to_z-of_z fv) (to_z-of_z (size_fits w32 _ (omega (arith, power_size v k p range e))))

pub returns-in_err-p : goal.returns-in_err-p
returns-in_err-p c =
    c.from_residual.ensures ∙ ap (in_node (kind_of c.args.kind)) (plain_no_power c.args.v c.args.k (rw (to_z-of_z c.ranges.k) at (sym c.power.ensures ∙ c.in_err-p.was)))

pub returns-then-v-ltminus9999 : goal.returns-then-v-ltminus9999
returns-then-v-ltminus9999 c =
    let v = c.args.v in
    ap (in_node (kind_of c.args.kind)) (plain_none v c.args.k (λ i.
    elim c.then-v-ltminus9999.branch [
      | then-v-ltminus9999-via-then-v-ltminus9999 w ↦ omega (arith, lt_true v (negsuc 9998) (rw (to_z-of_z c.ranges.v) at w.if-v-ltminus9999.true), parts_le (negsuc 9998) v i.number.from)
      | then-v-ltminus9999-via-else-v-ltminus9999+then-v-gt99999 w ↦ omega (arith, lt_true (pos 99999) v (rw (to_z-of_z c.ranges.v) at w.if-v-gt99999.true), parts_le v (pos 99999) i.number.to)
    ]))

pub returns-then-v-eq9999 : goal.returns-then-v-eq9999
returns-then-v-eq9999 c = ap (in_node (kind_of c.args.kind)) (plain_none c.args.v c.args.k (λ i. i.given (from_bits w32 c.args.v 9999 c.ranges.v c.if-v-eq9999.true)))

pub returns-then-kind-lt2 : goal.returns-then-kind-lt2
returns-then-kind-lt2 c =
    let v = c.args.v in
    let e : power_of c.args.k ≡ Some c.in_ok-p.p = rw (to_z-of_z c.ranges.k) at (sym c.power.ensures ∙ c.in_ok-p.was) in
    let f : SFits w32 c.in_ok-p.p = search rules in
    let l = rw (to_z-of_z c.ranges.v) at c.if-v-ltminus9999.false in
    let h = rw (to_z-of_z c.ranges.v) at c.if-v-gt99999.false in
    rw (product v c.args.k c.in_ok-p.p c.ranges.v f e l h, ← plain_some v c.args.k c.in_ok-p.p (range v c.args.k c.in_ok-p.p c.ranges.v f e l h) (λ z. c.if-v-eq9999.false (ap (of_z w32) z)) e) (tecu_node _ _ c.if-kind-lt2.true)

pub returns-else-kind-lt2 : goal.returns-else-kind-lt2
returns-else-kind-lt2 c =
    let v = c.args.v in
    let e : power_of c.args.k ≡ Some c.in_ok-p.p = rw (to_z-of_z c.ranges.k) at (sym c.power.ensures ∙ c.in_ok-p.was) in
    let f : SFits w32 c.in_ok-p.p = search rules in
    let l = rw (to_z-of_z c.ranges.v) at c.if-v-ltminus9999.false in
    let h = rw (to_z-of_z c.ranges.v) at c.if-v-gt99999.false in
    rw (product v c.args.k c.in_ok-p.p c.ranges.v f e l h, ← plain_some v c.args.k c.in_ok-p.p (range v c.args.k c.in_ok-p.p c.ranges.v f e l h) (λ z. c.if-v-eq9999.false (ap (of_z w32) z)) e) (km_node _ _ c.if-kind-lt2.false)
