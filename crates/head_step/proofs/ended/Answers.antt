use mathlib.Core.Bool.{not}
use mathlib.Core.Path.{sym, ap, ◌∙◌}
use Rattle.kit.proofs.TruthLaws.{truth_true, truth_false}
use borrow.Author.Tests.{not-true, not-false}
use Rattle.head_step.proofs.StepLaws.{lacking, disagreeing, too_large, all_well}
use Rattle.head_step.proofs.ended.Goals as goal

pub returns-then-not-complete : goal.returns-then-not-complete
returns-then-not-complete c =
    let a = c.args in
    sym (lacking a.s.now a.version (truth_false _ (sym c.complete.ensures ∙ not-true _ (ap not c.if-not-complete.true))))

pub returns-then-not-agrees : goal.returns-then-not-agrees
returns-then-not-agrees c =
    let a = c.args in
    sym (disagreeing a.s.now a.version c.header_of-header.result c.header_of-header.ensures (truth_true _ (sym c.complete.ensures ∙ not-false _ (ap not c.if-not-complete.false)))
    (truth_false _ (sym c.dimension_agrees-agrees.ensures ∙ not-true _ (ap not c.if-not-agrees.true))))

pub returns-then-not-fits : goal.returns-then-not-fits
returns-then-not-fits c =
    let a = c.args in
    sym (too_large a.s.now a.version c.header_of-header.result c.header_of-header.ensures (truth_true _ (sym c.complete.ensures ∙ not-false _ (ap not c.if-not-complete.false)))
    (truth_true _ (sym c.dimension_agrees-agrees.ensures ∙ not-false _ (ap not c.if-not-agrees.false))) (truth_false _ (sym c.limits_hold-fits.ensures ∙ not-true _ (ap not c.if-not-fits.true))))

pub returns : goal.returns
returns c =
    let a = c.args in
    sym (all_well a.s.now a.version c.header_of-header.result c.header_of-header.ensures (truth_true _ (sym c.complete.ensures ∙ not-false _ (ap not c.if-not-complete.false)))
    (truth_true _ (sym c.dimension_agrees-agrees.ensures ∙ not-false _ (ap not c.if-not-agrees.false))) (truth_true _ (sym c.limits_hold-fits.ensures ∙ not-false _ (ap not c.if-not-fits.false))))
