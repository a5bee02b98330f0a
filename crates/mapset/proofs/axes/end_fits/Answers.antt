use mir.Facts.{to_z-of_z}
use Rattle.mapset.specs.Decisions.{end?}
use Rattle.mapset.proofs.JudgedLaws.{from_low, below_low}
use Rattle.mapset.proofs.axes.end_fits.Goals as goal

pub returns-then-x-ge0 : goal.returns-then-x-ge0
unfolding end?
returns-then-x-ge0 c = rw (c.in-Heights.is, to_z-of_z c.ranges.x) (from_low _ _ _ (rw (to_z-of_z c.ranges.x) at c.if-x-ge0.true))

pub returns-else-x-ge0 : goal.returns-else-x-ge0
unfolding end?
returns-else-x-ge0 c = rw (c.in-Heights.is, to_z-of_z c.ranges.x) (below_low _ _ _ (rw (to_z-of_z c.ranges.x) at c.if-x-ge0.false))

pub returns-then-x-geminus900 : goal.returns-then-x-geminus900
unfolding end?
returns-then-x-geminus900 c = rw (c.in-Latitudes.is, to_z-of_z c.ranges.x) (from_low _ _ _ (rw (to_z-of_z c.ranges.x) at c.if-x-geminus900.true))

pub returns-else-x-geminus900 : goal.returns-else-x-geminus900
unfolding end?
returns-else-x-geminus900 c = rw (c.in-Latitudes.is, to_z-of_z c.ranges.x) (below_low _ _ _ (rw (to_z-of_z c.ranges.x) at c.if-x-geminus900.false))

pub returns-then-x-geminus1800 : goal.returns-then-x-geminus1800
unfolding end?
returns-then-x-geminus1800 c = rw (c.in-Longitudes.is, to_z-of_z c.ranges.x) (from_low _ _ _ (rw (to_z-of_z c.ranges.x) at c.if-x-geminus1800.true))

pub returns-else-x-geminus1800 : goal.returns-else-x-geminus1800
unfolding end?
returns-else-x-geminus1800 c = rw (c.in-Longitudes.is, to_z-of_z c.ranges.x) (below_low _ _ _ (rw (to_z-of_z c.ranges.x) at c.if-x-geminus1800.false))
