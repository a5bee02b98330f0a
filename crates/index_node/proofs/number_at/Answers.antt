-- `index_node::number_at` meets its contract.
use mathlib.Core.Bool.{not}
use mathlib.Core.Path.{◌≡◌, sym, ap, ◌∙◌}
use borrow.Author.Tests.{not-true, not-false}
use lib.IntN.{pos, negsuc}
use mir.Facts.{to_z-of_z}
use Rattle.kit.specs.Integer.{between?}
use Rattle.kit.specs.Truth.{truth}
use Rattle.kit.proofs.TruthLaws.{truth_true, truth_false}
use Rattle.forms.specs.Read.{is_number}
use Rattle.index_node.proofs.AskLaws.{five_long, no_exponent, no_block, a_number}
use Rattle.index_node.proofs.number_at.Goals as goal

pub returns-then-not-between : goal.returns-then-not-between
returns-then-not-between c =
    let j : c.between.result ≡ truth (between? (negsuc 2) (pos 0) c.args.e) = rw (to_z-of_z c.ranges.e) at c.between.ensures in
    no_exponent _ _ _ _ _ _ (truth_false _ (sym j ∙ not-true _ (ap not c.if-not-between.true)))

pub int_value-requires : goal.int_value-requires
int_value-requires c = let r = c.in-Some.ensures.reads in (five_long _ _ r.within, ap is_number r.five)

pub returns-in-None : goal.returns-in-None
returns-in-None c = no_block _ _ _ _ _ _ c.in-None.ensures

pub returns-in-Some : goal.returns-in-Some
returns-in-Some c =
    let j : c.between.result ≡ truth (between? (negsuc 2) (pos 0) c.args.e) = rw (to_z-of_z c.ranges.e) at c.between.ensures in
    let x = truth_true _ (sym j ∙ not-false _ (ap not c.if-not-between.false)) in
    rw (to_z-of_z (record { sfits = c.int_value.type_inv }), to_z-of_z c.ranges.e) (a_number _ _ _ _ _ _ x _ _ c.in-Some.ensures _ c.int_value.ensures)
