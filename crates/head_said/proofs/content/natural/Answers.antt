use mir.Facts.{to_z-of_z}
use Rattle.head_said.proofs.RecordLaws.{under_zero, below_low, up_to}
use Rattle.head_said.proofs.content.natural.Goals as goal

pub returns-then-z-lt0 : goal.returns-then-z-lt0
returns-then-z-lt0 c = under_zero _ _ c.args.z (rw (to_z-of_z c.ranges.z) at c.if-z-lt0.true)

pub returns-then-n-low : goal.returns-then-n-low
returns-then-n-low c =
    let n = rw (to_z-of_z c.ranges.z) at c.unsigned_abs-n.ensures.value in
    below_low _ _ c.args.z (rw n at c.if-n-low.true)

pub returns : goal.returns
returns c =
    let n = rw (to_z-of_z c.ranges.z) at c.unsigned_abs-n.ensures.value in
    rw n (up_to _ _ c.args.z (rw (to_z-of_z c.ranges.z) at c.if-z-lt0.false) (rw n at c.if-n-low.false))
