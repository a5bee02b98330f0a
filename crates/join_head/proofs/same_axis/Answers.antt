use Rattle.std.proofs.Common.{◌∙◌, rules, w32, SFits}
use Rattle.kit.specs.Answer.{×_dec}
use Rattle.kit.specs.Integer.{int?}
use Rattle.kit.proofs.IntegerLaws.{same_bits}
use Rattle.kit.proofs.TruthLaws.{both}
use Rattle.join.specs.Join.{axis?}
use Rattle.join_head.proofs.Told.{by_parts}
use Rattle.join_head.proofs.same_axis.Goals as goal

pub returns : goal.returns
unfolding axis?
returns c =
    let a = c.args.a in
    let z = c.args.b in
    let d1 = int? a.first z.first in
    let d2 = int? a.last z.last in
    let d3 = int? a.step z.step in
    let f1 : SFits w32 a.first = search rules in
    let f2 : SFits w32 a.last = search rules in
    let f3 : SFits w32 a.step = search rules in
    let g1 : SFits w32 z.first = search rules in
    let g2 : SFits w32 z.last = search rules in
    let g3 : SFits w32 z.step = search rules in
    both d1 (×_dec d2 d3) (same_bits w32 _ _ f1 g1) (both d2 d3 (same_bits w32 _ _ f2 g2) (same_bits w32 _ _ f3 g3)) ∙ by_parts _ _ (×_dec d1 (×_dec d2 d3))
