use mathlib.Core.Path.{ap, ◌∙◌}
use Rattle.kit.specs.Lists.{front}
use Rattle.c_answers.proofs.put_refusal.Goals as goal

pub returns : goal.returns
returns c =
    let w = c.refusal_of-w.ensures in
    (w.0, c.put_pair.ensures ∙ ap (λ l. front l c.args.place.now) w.1)
