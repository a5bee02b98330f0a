use mathlib.Core.Path.{ap}
use mir.Syntax.{w32}
use mir.Val.{of_z}
use mir.Facts.{to_z-of_z}
use Rattle.mapset.specs.Decisions.{step?}
use Rattle.mapset.proofs.JudgedLaws.{from_low, below_low, none, still, stepped}
use Rattle.mapset.proofs.axes.step_fits.Goals as goal

pub returns-then-d-ge0 : goal.returns-then-d-ge0
unfolding step?
returns-then-d-ge0 c = rw (c.in-Heights.is, to_z-of_z c.ranges.d) (from_low _ _ _ (rw (to_z-of_z c.ranges.d) at c.if-d-ge0.true))

pub returns-else-d-ge0 : goal.returns-else-d-ge0
unfolding step?
returns-else-d-ge0 c = rw (c.in-Heights.is, to_z-of_z c.ranges.d) (below_low _ _ _ (rw (to_z-of_z c.ranges.d) at c.if-d-ge0.false))

pub returns-then-d-ge1 : goal.returns-then-d-ge1
unfolding step?
returns-then-d-ge1 c = rw (c.in-Longitudes.is, to_z-of_z c.ranges.d) (from_low _ _ _ (rw (to_z-of_z c.ranges.d) at c.if-d-ge1.true))

pub returns-else-d-ge1 : goal.returns-else-d-ge1
unfolding step?
returns-else-d-ge1 c = rw (c.in-Longitudes.is, to_z-of_z c.ranges.d) (below_low _ _ _ (rw (to_z-of_z c.ranges.d) at c.if-d-ge1.false))

pub returns-then-d-ne0 : goal.returns-then-d-ne0
returns-then-d-ne0 c =
    rw (c.in-Latitudes.is, c.unsigned_abs.ensures.value, to_z-of_z c.ranges.d) (stepped c.args.d (λ e. c.if-d-ne0.true (ap (of_z w32) e)))

pub returns-else-d-ne0 : goal.returns-else-d-ne0
returns-else-d-ne0 c = rw (c.in-Latitudes.is, c.if-d-ne0.false) (still c.args.d (none c.args.d c.ranges.d c.if-d-ne0.false))
