-- `c_biases::put_biased` meets its contract.
use mathlib.Core.Path.{refl, ap, ◌∙◌}
use Rattle.kit.specs.Lists.{front}
use Rattle.c_biases.proofs.put_biased.Goals as goal

pub returns-in-Ok : goal.returns-in-Ok
returns-in-Ok c = rw c.in-Ok.is (refl, (c.put_pair.ensures, refl))

pub returns-in-Err : goal.returns-in-Err
returns-in-Err c =
    let w = c.refusal_of-w.ensures in
    rw c.in-Err.is (w.0, (refl, c.put_pair-in-Err.ensures ∙ ap (λ l. front l c.args.place.now) w.1))
