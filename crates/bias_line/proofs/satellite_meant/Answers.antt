-- `bias_line::satellite_meant` meets its contract.
use mathlib.Core.Path.{◌≡◌, refl, sym, ap, ◌∙◌}
use mathlib.Core.Bool.{not}
use lib.IntN.{nat_abs}
use mir.Facts.{to_z-of_z}
use borrow.Author.Tests.{not-true, not-false}
use Rattle.kit.specs.Answer.{ok, bind}
use Rattle.kit.proofs.AnswerLaws.{need_yes, need_no}
use Rattle.kit.specs.Range.{natural?}
use Rattle.kit.specs.Truth.{truth}
use Rattle.kit.proofs.TruthLaws.{truth_true, truth_false}
use Rattle.biases.specs.Read.{satellite_meant}
use Rattle.biases.specs.declared.Satellite.{Satellite}
use borrow.Author.Rules.{rules}
use Rattle.bias_line.proofs.satellite_meant.Goals as goal

pub returns-in_err-system : goal.returns-in_err-system
unfolding satellite_meant bind
returns-in_err-system c = rw (← c.in_err-system.ensures) (search rules)

pub returns-then-not-natural : goal.returns-then-not-natural
unfolding satellite_meant bind
returns-then-not-natural c =
    let r : c.natural.result ≡ truth (natural? 1 99 c.args.number) = rw (to_z-of_z c.ranges.number) at c.natural.ensures in
    rw (← c.in_ok-system.ensures, need_no (natural? _ _ _) _ _ (truth_false _ (sym r ∙ not-true _ (ap not c.if-not-natural.true)))) refl

pub returns : goal.returns
unfolding satellite_meant bind
returns c =
    let r : c.natural.result ≡ truth (natural? 1 99 c.args.number) = rw (to_z-of_z c.ranges.number) at c.natural.ensures in
    rw (← c.in_ok-system.ensures, need_yes (natural? _ _ _) _ _ (truth_true _ (sym r ∙ not-false _ (ap not c.if-not-natural.false))))
    (ap (λ (s : Satellite). ok s) (λ i. record {
      system = c.in_ok-system.system;
      number = (c.unsigned.ensures ∙ ap nat_abs (to_z-of_z c.ranges.number)) i;
      bias = to_z-of_z c.ranges.bias i;
      rms = to_z-of_z c.ranges.rms i;
    }))
