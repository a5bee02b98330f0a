-- `ask_why::causes::cause_at` meets its contract.
use mathlib.Core.Bool.{not}
use borrow.Author.Rules.{rules}
use mathlib.Core.Path.{◌≡◌, sym, ap, ap₂, ◌∙◌}
use native.Mathlib.Omega.{arith}
use native.Mathlib.Nat.{mul-le-mul, le_of_lt}
use borrow.Author.Tests.{not-true, not-false}
use Prim.Native.Nat.{ℕ, ◌+◌, ◌*◌}
use lib.IntN.{ℤ, pos}
use lib.ListN.{get_or}
use Rattle.kit.proofs.TruthLaws.{truth_true, truth_false}
use Rattle.mapset.specs.Areas.{Present}
use Rattle.ask_nodes.specs.Value.{kind_of}
use Rattle.ask_why.specs.Parts.{plain_cause, cause}
use Rattle.ask_why.proofs.NodeList.{absent_cause, present_cause}
use Rattle.ask_why.proofs.causes.cause_at.Statement.{statement}
use Rattle.ask_why.proofs.causes.cause_at.Tie as tie

there : (c : tie.Else-not-is_present) → Present (kind_of c.args.s.kind) (get_or c.args.marks.now c.args.n.map 0)
there c = truth_true _ (sym c.is_present.ensures ∙ not-false _ (ap not c.if-not-is_present.false))

shared-slice-read-is-present : tie.Need-bounds-marks-map
shared-slice-read-is-present c = search rules

is-present-requires : tie.Need-is_present-requires
is-present-requires c κs = search rules

returns : tie.Need-returns-then-not-is_present
unfolding cause
returns c =
    let s = c.before.before.before.before in
    absent_cause (kind_of s.args.s.kind) _ _ _ (truth_false _ (sym c.is_present.ensures ∙ not-true _ (ap not c.if-not-is_present.true)))

block-of-requires : tie.Need-block_of-block-requires
block-of-requires c κs = search rules

mul-number : tie.Need-overflow_mul-number
mul-number c = let s = c.before.before.before.before.before.before in let r = s.requires in omega (arith, mul-le-mul (le_of_lt r.block) r.columns, ap (λ (b : ℕ). b * s.args.s.columns) c.block_of-block.ensures)

add-number : tie.Need-overflow_add-number
add-number c = let s = c.before.before.before.before.before.before.before in let r = s.requires in omega (arith, mul-le-mul (le_of_lt r.block) r.columns, r.column, r.columns, ap (λ (b : ℕ). b * s.args.s.columns) c.block_of-block.ensures)

first-exponent-requires : tie.Need-first_exponent-requires
first-exponent-requires c κs = search rules

add-exponent : tie.Need-overflow_add-exponent
add-exponent c = search rules

mul-cause-of : tie.Need-offset_bounds-values-number
mul-cause-of c = let s = c.before.before.before.before.before.before.before.before in let r = s.requires in omega (arith, mul-le-mul (le_of_lt r.block) r.columns, r.column, r.columns, ap (λ (b : ℕ). b * s.args.s.columns) c.block_of-block.ensures)

shared-slice-copy-out-cause-of : tie.Need-bounds-values-number
shared-slice-copy-out-cause-of c =
    let s = c.before.before.before.before.before.before.before.before in
    rw c.block_of-block.ensures (s.requires.number (there c.before.before.before.before))

mul-cause-of-2 : tie.Need-offset_bounds-exponents-exponent
mul-cause-of-2 c = search rules

shared-slice-copy-out-cause-of-2 : tie.Need-bounds-exponents-exponent
shared-slice-copy-out-cause-of-2 c = search rules

cause-of-requires : tie.Need-cause_of-requires
cause-of-requires c κs = search rules

returns-2 : tie.Need-returns
unfolding cause
returns-2 c =
    let f = c.before.before.before in
    let d = f.before.before.before in
    let s = d.before.before.before.before.before in
    let b = d.block_of-block.result in
    let e : c.cause_of.result ≡ plain_cause (get_or s.args.values.now (b * s.args.s.columns + s.args.n.column) (pos 0)) (get_or s.args.exponents.now (f.first_exponent.result + b) (pos 0)) =
    c.cause_of.ensures ∙ ap₂ (λ (x y : ℤ). plain_cause x y) (search rules) (search rules) in
    e ∙ (rw (d.block_of-block.ensures, f.first_exponent.ensures) (present_cause (kind_of s.args.s.kind) _ _ _ (there d.before)))

pub cause_at_spec : {M : Type 1} → statement M
cause_at_spec = tie.close (tie.spec shared-slice-read-is-present is-present-requires returns block-of-requires mul-number add-number first-exponent-requires add-exponent mul-cause-of shared-slice-copy-out-cause-of mul-cause-of-2 shared-slice-copy-out-cause-of-2 cause-of-requires returns-2)
