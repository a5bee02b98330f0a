use Rattle.std.proofs.Common.{refl}
use Rattle.c_answers.proofs.put_joined.Goals as goal

pub put_header-requires : goal.put_header-requires
put_header-requires c = let z = rw c.in-Ok.is at c.requires.1.1.1.1 in (c.requires.0, z.0, z.1)

pub returns-in-Ok : goal.returns-in-Ok
returns-in-Ok c = rw c.in-Ok.is (refl, (c.put_header.ensures, (c.put_texts.ensures, refl)))

pub returns-in-Err : goal.returns-in-Err
returns-in-Err c = let w = c.put_why.ensures in rw c.in-Err.is (w.0, (refl, (refl, w.1)))
