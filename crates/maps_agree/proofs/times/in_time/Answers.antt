use mathlib.Core.Path.{ap}
use mathlib.Core.Bool.{not}
use mathlib.Core.Path.{sym, ◌∙◌}
use native.Mathlib.Numerals.{add-one}
use borrow.Author.Tests.{not-true, not-false}
use Rattle.maps_agree.proofs.TimeLaws.{time_not, time_last, time_fine}
use Rattle.maps_agree.proofs.times.in_time.Goals as goal

pub returns-then-not-is_after : goal.returns-then-not-is_after
returns-then-not-is_after c =
    let a = c.args in
    time_not a.header a.epochs.now a.e (sym c.is_after.ensures ∙ not-true _ (ap not c.if-not-is_after.true))

pub returns-then-epochs-header : goal.returns-then-epochs-header
returns-then-epochs-header c =
    let a = c.args in
    time_last a.header a.epochs.now a.e (sym c.is_after.ensures ∙ not-false _ (ap not c.if-not-is_after.false)) (sym (add-one _) ∙ c.if-epochs-header.true)

pub returns : goal.returns
returns c =
    let a = c.args in
    time_fine a.header a.epochs.now a.e (sym c.is_after.ensures ∙ not-false _ (ap not c.if-not-is_after.false)) (λ m. c.if-epochs-header.false (add-one _ ∙ m))
