-- each number in words, so that another one is seen to differ
use mathlib.Core.Path.{refl}
use Rattle.c_answers.proofs.put_why.Goals as goal

pub returns-in-NotValid : goal.returns-in-NotValid
returns-in-NotValid c = rw c.in-NotValid.is (refl, refl)

pub returns-in-Unlike : goal.returns-in-Unlike
returns-in-Unlike c = rw c.in-Unlike.is (refl, refl)

pub returns-in-Apart : goal.returns-in-Apart
returns-in-Apart c = rw c.in-Apart.is (refl, refl)

pub returns-in-TooMany : goal.returns-in-TooMany
returns-in-TooMany c = rw c.in-TooMany.is (refl, refl)

pub returns-in-AreaTooShort : goal.returns-in-AreaTooShort
returns-in-AreaTooShort c = rw c.in-AreaTooShort.is (refl, c.put_pair.ensures)
