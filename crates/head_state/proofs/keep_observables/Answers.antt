use mathlib.Core.Path.{ap}
use Rattle.kit.specs.Answer.{ok, bind}
use Rattle.layout.specs.Layout.{Slots, mode}
use Rattle.head_state.specs.Got.{kept, went}
use Rattle.head_state.proofs.GotLaws.{observables_kept}
use Rattle.head_said.proofs.RecordLaws.{observables_says}
use borrow.Author.Rules.{rules}
use Rattle.head_state.proofs.keep_observables.Goals as goal

pub returns : goal.returns
unfolding kept bind
returns c =
    let s = c.args.s.now in
    rw (observables_says _ c.requires, c.text-s.ensures) (ap (λ (z : Slots). ok (went (mode s.aux) s.exponent z s.descriptions)) (observables_kept s (search rules) _))
