-- each number in words, so that another one is seen to differ
use mathlib.Core.Path.{refl}
use Rattle.c_index.proofs.number_of.Goals as goal

pub returns-in-Unknown : goal.returns-in-Unknown
returns-in-Unknown c = rw c.in-Unknown.is refl

pub returns-in-Unfit : goal.returns-in-Unfit
returns-in-Unfit c = rw c.in-Unfit.is refl

pub returns-in-Outside : goal.returns-in-Outside
returns-in-Outside c = rw c.in-Outside.is refl

pub returns-in-Absent : goal.returns-in-Absent
returns-in-Absent c = rw c.in-Absent.is refl

pub returns-in-Astray : goal.returns-in-Astray
returns-in-Astray c = rw c.in-Astray.is refl
