-- `index_block::opens` meets its contract.
use mathlib.Core.Bool.{not}
use mathlib.Core.Path.{sym, ap, ◌∙◌}
use borrow.Author.Tests.{not-true, not-false}
use Rattle.index_block.proofs.OpenLaws.{unnamed, ill_formed, judged}
use Rattle.index_block.proofs.opens.Goals as goal

pub returns-then-not-is_opening : goal.returns-then-not-is_opening
returns-then-not-is_opening c =
    let a = c.args in
    unnamed a.header a.d a.line.now (sym c.is_opening.ensures ∙ not-true _ (ap not c.if-not-is_opening.true))

pub returns-in-Err : goal.returns-in-Err
returns-in-Err c = let a = c.args in ill_formed a.header a.d a.line.now c.in-Err.ensures

pub returns-in-Ok : goal.returns-in-Ok
returns-in-Ok c =
    let a = c.args in
    judged a.header a.d a.line.now _ (sym c.is_opening.ensures ∙ not-false _ (ap not c.if-not-is_opening.false)) c.in-Ok.ensures _ c.agrees.ensures
