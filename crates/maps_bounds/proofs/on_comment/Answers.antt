use mathlib.Core.Path.{sym, ap, ◌∙◌}
use Rattle.std.specs.Prelude.{Ok}
use Rattle.maps_bounds.proofs.StepLaws.{stops, stills, comment_ended, comment_on}
use Rattle.maps_bounds.proofs.on_comment.Goals as goal

pub returns-then-has_ended : goal.returns-then-has_ended
returns-then-has_ended c = λ h es. stops es (comment_ended c.args.place _ (sym c.if-has_ended.ensures))

pub returns : goal.returns
returns c = λ h es. ap Ok c.still.ensures ∙ stills es c.args.place c.args.past (comment_on c.args.place _ (sym c.if-has_ended.ensures))
