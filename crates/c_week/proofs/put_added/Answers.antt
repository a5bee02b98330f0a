use Rattle.std.proofs.Common.{refl}
use Rattle.c_week.proofs.put_added.Goals as goal

pub put_week-requires : goal.put_week-requires
put_week-requires c = (c.requires.0, rw c.in-Ok.is at c.requires.1.1)

pub returns-in-Ok : goal.returns-in-Ok
returns-in-Ok c = rw c.in-Ok.is (refl, (c.put_week.ensures, refl))

pub returns-in-Err : goal.returns-in-Err
returns-in-Err c = rw c.in-Err.is (c.put_why.ensures.0, (refl, c.put_why.ensures.1))
