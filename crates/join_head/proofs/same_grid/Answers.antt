-- `join_head::same_grid` meets its contract.
use mathlib.Core.Path.{◌∙◌}
use Rattle.kit.specs.Answer.{×_dec}
use Rattle.kit.proofs.TruthLaws.{both}
use Rattle.join.specs.Join.{axis?, grid?}
use Rattle.join_head.proofs.Told.{by_parts}
use Rattle.join_head.proofs.same_grid.Goals as goal

pub returns : goal.returns
unfolding grid?
returns c =
    let a = c.args.a in
    let z = c.args.b in
    let d1 = axis? a.heights z.heights in
    let d2 = axis? a.latitudes z.latitudes in
    let d3 = axis? a.longitudes z.longitudes in
    both d1 (×_dec d2 d3) c.same_axis.ensures (both d2 d3 c.same_axis-2.ensures c.same_axis-3.ensures) ∙ by_parts _ _ (×_dec d1 (×_dec d2 d3))
