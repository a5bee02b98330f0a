use mathlib.Core.Path.{refl}
use Rattle.c_answers.proofs.put_needs.Goals as goal

pub returns-in-Ok : goal.returns-in-Ok
returns-in-Ok c = rw c.in-Ok.is (refl, (c.put_elements.ensures, refl))

pub returns-in-Err : goal.returns-in-Err
returns-in-Err c =
    let w = c.put_refusal.ensures in
    rw c.in-Err.is (w.0, (refl, w.1))
