use Rattle.std.proofs.Common.{◌≡◌, w32, to_z, of_z, ◌∙◌}
use mir.Facts.{to_z-of_z}
use Rattle.maps_agree.proofs.GridLaws.{count_none, count_some}
use Rattle.maps_agree.proofs.grid.counts.Goals as goal

pub returns-then-z-ge0 : goal.returns-then-z-ge0
returns-then-z-ge0 c =
    let z : to_z w32 (of_z w32 c.args.z) ≡ c.args.z = to_z-of_z c.ranges.z in
    rw z (count_some _ _ (rw z at c.if-z-ge0.true))

pub returns-else-z-ge0 : goal.returns-else-z-ge0
returns-else-z-ge0 c =
    let z : to_z w32 (of_z w32 c.args.z) ≡ c.args.z = to_z-of_z c.ranges.z in
    c.if-z-ge0.false ∙ count_none _ _ (rw z at c.if-z-ge0.false)
