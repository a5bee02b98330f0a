use mathlib.Core.Path.{ap}
use Rattle.kit.specs.Answer.{ok, bind}
use Rattle.layout.specs.Layout.{Slots, mode}
use Rattle.head_state.specs.Got.{kept, went}
use Rattle.head_state.proofs.GotLaws.{program_kept}
use Rattle.head_said.proofs.RecordLaws.{program_says}
use borrow.Author.Rules.{rules}
use Rattle.head_state.proofs.keep_program.Goals as goal

pub returns : goal.returns
unfolding kept bind
returns c =
    let s = c.args.s.now in
    rw (program_says _ c.requires, c.text-s.ensures, c.text-s-2.ensures, c.text-s-3.ensures) (ap (λ (z : Slots). ok (went (mode s.aux) s.exponent z s.descriptions)) (program_kept s (search rules) _ _ _))
